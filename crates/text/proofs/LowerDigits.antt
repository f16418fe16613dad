-- The digits that are written: how many they are, that they are read as the number again, and that a word without a capital letter is written as it stood.
use Rattle.std.proofs.Common.{◌≡◌, refl, sym, ap, ◌∙◌, ⊎_elim, Bool, true, false, not, ◌&&◌, ◌||◌, cond, List, [], ◌∷◌, ◌++◌, append-nil, append_assoc, ℕ, zero, suc, ◌+◌, ◌-◌, ◌*◌, ◌/◌, ◌%◌, ◌^◌, ◌≤◌, ◌<◌, pow-suc, add-one, add-zero, zero-add, add-suc, suc-add, arith, lt-ltb, le-ltb, le-leb, eqb-true, ltb, eqb, length, drop, set, length-append}
use Rattle.std.proofs.lemmas.Bool.{false≢true, lt-leb}
use Rattle.std.proofs.Math.Seq.{append_snoc}
use Rattle.std.proofs.lemmas.List.{drop-set}
use Rattle.std.specs.Char.{digit_char}
use Rattle.text.specs.Text.{lf, space, joined, line_of, text_of, between, is_digit, digit_of, each_digit, word_digits, is_word, followed_by, word_of, lower_digit, lower_digits, field_of, no_capital}
use Rattle.lists.proofs.Cases.{both, le_or_lt, and_true, and_false}
use Rattle.text.proofs.Digits.{inside, followed, each_digit_of}
use Rattle.text.proofs.Joining.{lacks}

-- ---- a digit that is put in front of those put before it
pub char_of_digit : (value : ℕ) → digit_char value ≡ lower_digit value
unfolding lower_digit
char_of_digit value = ⊎_elim letter numeral (le_or_lt 10 value)
  where
    letter : 10 ≤ value → digit_char value ≡ cond (ltb value 10) (48 + value) (97 + (value - 10))
    letter l = rw (le-ltb value 10 l) (omega arith)

    numeral : value < 10 → digit_char value ≡ cond (ltb value 10) (48 + value) (97 + (value - 10))
    numeral l = rw (lt-ltb value 10 l)

pub put_in_front : (k left : ℕ) (text : List ℕ) → 0 < k → k ≤ length text
    → lower_digits (k - 1) (left / 16) ++ drop (k - 1) (set text (k - 1) (lower_digit (left % 16))) ≡ lower_digits k left ++ drop k text
unfolding lower_digits
put_in_front zero left text h l = absurd (omega arith)
put_in_front (suc k) left text h l =
    let e : suc k - 1 ≡ k = omega arith in
    rw (e, drop-set text k (lower_digit (left % 16)) (omega arith), add-one)
    (sym (append_assoc (lower_digits k (left / 16)) (lower_digit (left % 16) ∷ []) (drop (suc k) text)))

-- ---- a digit
module _ (value : ℕ) (h : value < 16) where
  letter : 10 ≤ value → (is_digit (lower_digit value) ≡ true) × (digit_of (lower_digit value) ≡ value)
  unfolding is_digit digit_of lower_digit
  letter l =
      let n = 97 + (value - 10) in
      let a = lt-leb n 57 (omega arith) in
      let b = lt-leb n 70 (omega arith) in
      let c = le-leb 97 n (omega arith) in
      let d = le-leb n 102 (omega arith) in
      let f = le-leb 48 n (omega arith) in
      let g = le-leb 65 n (omega arith) in
      rw (le-ltb value 10 l, a, b, c, d, f, g) (refl, omega arith)

  numeral : value < 10 → (is_digit (lower_digit value) ≡ true) × (digit_of (lower_digit value) ≡ value)
  unfolding is_digit digit_of lower_digit
  numeral l =
      let n = 48 + value in
      let a = le-leb n 57 (omega arith) in
      let f = le-leb 48 n (omega arith) in
      rw (lt-ltb value 10 l, a, f) (refl, omega arith)

  pub lower_is_digit : (is_digit (lower_digit value) ≡ true) × (digit_of (lower_digit value) ≡ value)
  lower_is_digit = ⊎_elim letter numeral (le_or_lt 10 value)

-- ---- some digits
lower_long : (count number : ℕ) → length (lower_digits count number) ≡ count
unfolding lower_digits
lower_long zero number = refl
lower_long (suc count) number = rw (length-append, lower_long count (number / 16)) (omega arith)

pub field_long : (word : ℕ) → length (field_of word) ≡ word_digits
unfolding field_of
field_long word = lower_long word_digits word

lower_each : (count number : ℕ) → each_digit (lower_digits count number) ≡ true
unfolding lower_digits each_digit
lower_each zero number = refl
lower_each (suc count) number =
    each_digit_of (lower_digits count (number / 16)) _
    ∙ rw (lower_each count (number / 16), (lower_is_digit (number % 16) (omega arith)).0)

pub field_is_word : (word : ℕ) → is_word (field_of word) ≡ true
unfolding is_word field_of
field_is_word word = rw (lower_long word_digits word) (lower_each word_digits word)

lower_value : (count number : ℕ) → number < 16 ^ count → followed_by 0 (lower_digits count number) ≡ number
unfolding lower_digits followed_by
lower_value zero number h = omega arith
lower_value (suc count) number h =
    let front = lower_digits count (number / 16) in
    let l : number / 16 < 16 ^ count = omega (arith, pow-suc 16 count) in
    followed 0 front (lower_digit (number % 16) ∷ [])
    ∙ rw (lower_value count (number / 16) l, (lower_is_digit (number % 16) (omega arith)).1) (omega arith)

pub word_of_field : (word : ℕ) → word < 2 ^ 32 → word_of (field_of word) ≡ word
unfolding word_of field_of
word_of_field word h = lower_value word_digits word h

-- ---- bytes that no digit is
digits_lack : (at : ℕ) → is_digit at ≡ false → (bs : List ℕ) → each_digit bs ≡ true → lacks at bs ≡ true
unfolding each_digit
digits_lack at n [] e = refl
digits_lack at n (b ∷ bs) e = let d = both _ _ e in go (eqb b at) refl d.0 (digits_lack at n bs d.1)
  where
    go : (t : Bool) → eqb b at ≡ t → is_digit b ≡ true → lacks at bs ≡ true → not t && lacks at bs ≡ true
    go true q d l = absurd (false≢true (sym n ∙ ap is_digit (sym (eqb-true b at q)) ∙ d))
    go false q d l = l

pub field_lacks : (at : ℕ) → is_digit at ≡ false → (word : ℕ) → lacks at (field_of word) ≡ true
unfolding field_of
field_lacks at n word = digits_lack at n (field_of word) (lower_each word_digits word)

-- ---- a word without a capital letter
capital : (b : ℕ) → 65 ≤ b → b ≤ 70 → not (between 65 90 b) ≡ true → ⊥
capital b l h n = false≢true (rw (le-leb 65 b l, le-leb b 90 (omega arith)) at n)

as_it_stood : (b : ℕ) → is_digit b ≡ true → not (between 65 90 b) ≡ true → (lower_digit (digit_of b) ≡ b) × (digit_of b < 16)
unfolding is_digit digit_of lower_digit
as_it_stood b e n = go (between 48 57 b) (between 65 70 b) (between 97 102 b) (inside 48 57 b) (inside 65 70 b) (inside 97 102 b) e
  where
    go : (p q r : Bool) → (p ≡ true → (48 ≤ b) × (b ≤ 57)) → (q ≡ true → (65 ≤ b) × (b ≤ 70)) → (r ≡ true → (97 ≤ b) × (b ≤ 102)) → p || (q || r) ≡ true
        → (lower_digit (cond p (b - 48) (cond q (b - 65 + 10) (b - 97 + 10))) ≡ b) × (cond p (b - 48) (cond q (b - 65 + 10) (b - 97 + 10)) < 16)
    go true q r f g h e = let i = f refl in rw (lt-ltb (b - 48) 10 (omega arith)) (omega arith, omega arith)
    go false true r f g h e = let i = g refl in absurd (capital b i.0 i.1 n)
    go false false true f g h e = let i = h refl in rw (le-ltb (b - 97 + 10) 10 (omega arith)) (omega arith, omega arith)
    go false false false f g h e = absurd (false≢true e)

-- digits read behind those of a number
read_behind : (count number : ℕ) (field : List ℕ) → each_digit field ≡ true → no_capital field ≡ true
    → lower_digits (count + length field) (followed_by number field) ≡ lower_digits count number ++ field
unfolding each_digit no_capital followed_by lower_digits
read_behind count number [] e n = rw (add-zero) (sym (append-nil (lower_digits count number)))
read_behind count number (b ∷ field) e n =
    let d = both _ _ e in
    let l = both _ _ n in
    let stood = as_it_stood b d.0 l.0 in
    let value = number * 16 + digit_of b in
    let front : value / 16 ≡ number = omega (arith, stood.1) in
    let last : value % 16 ≡ digit_of b = omega (arith, stood.1) in
    ap (λ (k : ℕ). lower_digits k (followed_by value field)) (add-suc count (length field) ∙ sym (suc-add count (length field)))
    ∙ read_behind (suc count) value field d.1 l.1
    ∙ rw (front, last, stood.0) (append_snoc (lower_digits count number) b field)

pub field_of_word : (field : List ℕ) → is_word field ≡ true → no_capital field ≡ true → field_of (word_of field) ≡ field
unfolding is_word word_of field_of lower_digits
field_of_word field e n =
    let d = both _ _ e in
    ap (λ (k : ℕ). lower_digits k (followed_by 0 field)) (sym (eqb-true (length field) word_digits d.0) ∙ sym (zero-add (length field)))
    ∙ read_behind 0 0 field d.1 n

-- ---- a text without a capital letter
no_capital_of : (a b : List ℕ) → no_capital (a ++ b) ≡ no_capital a && no_capital b
unfolding no_capital
no_capital_of [] b = refl
no_capital_of (x ∷ a) b = go (not (between 65 90 x)) (no_capital_of a b)
  where
    go : (t : Bool) → no_capital (a ++ b) ≡ no_capital a && no_capital b → t && no_capital (a ++ b) ≡ (t && no_capital a) && no_capital b
    go true e = e
    go false e = refl

abbrev pub each_lower : List (List ℕ) → Bool
each_lower [] = true
each_lower (p ∷ ps) = no_capital p && each_lower ps

abbrev pub lines_lower : List (List (List ℕ)) → Bool
lines_lower [] = true
lines_lower (fields ∷ lines) = each_lower fields && lines_lower lines

no_capital_joined : (ps : List (List ℕ)) → no_capital (joined space ps) ≡ each_lower ps
unfolding joined no_capital
no_capital_joined [] = refl
no_capital_joined (p ∷ []) = sym (and_true (no_capital p))
no_capital_joined (p ∷ q ∷ ps) = no_capital_of p _ ∙ ap (λ (t : Bool). no_capital p && t) (no_capital_joined (q ∷ ps))

pub no_capital_text : (lines : List (List (List ℕ))) → no_capital (text_of lines) ≡ lines_lower lines
unfolding text_of no_capital
no_capital_text [] = refl
no_capital_text (fields ∷ lines) =
    no_capital_of (line_of fields) (text_of lines)
    ∙ rw (no_capital_of (joined space fields) (lf ∷ []), and_true (no_capital (joined space fields)), no_capital_joined fields, no_capital_text lines)

lower_no_capital : (value : ℕ) → value < 16 → not (between 65 90 (lower_digit value)) ≡ true
unfolding lower_digit
lower_no_capital value h = ⊎_elim letter numeral (le_or_lt 10 value)
  where
    letter : 10 ≤ value → not (between 65 90 (lower_digit value)) ≡ true
    letter l = rw (le-ltb value 10 l, lt-leb (97 + (value - 10)) 90 (omega arith), and_false)

    numeral : value < 10 → not (between 65 90 (lower_digit value)) ≡ true
    numeral l = rw (lt-ltb value 10 l, lt-leb 65 (48 + value) (omega arith))

digits_no_capital : (count number : ℕ) → no_capital (lower_digits count number) ≡ true
unfolding lower_digits no_capital
digits_no_capital zero number = refl
digits_no_capital (suc count) number =
    no_capital_of (lower_digits count (number / 16)) _
    ∙ rw (digits_no_capital count (number / 16), lower_no_capital (number % 16) (omega arith))

pub field_no_capital : (word : ℕ) → no_capital (field_of word) ≡ true
unfolding field_of
field_no_capital word = digits_no_capital word_digits word
