-- Digits and words, byte by byte: a digit's value, a word read from the front, and how large it is.
use Rattle.std.proofs.Common.{◌≡◌, refl, sym, ap, ◌∙◌, Bool, true, false, ◌&&◌, ◌||◌, cond, List, [], ◌∷◌, ◌++◌, ℕ, zero, suc, ◌+◌, ◌-◌, ◌*◌, ◌/◌, ◌%◌, ◌^◌, ◌≤◌, ◌<◌, zero-le, suc-le-suc, mul-le-mul_right, mul_assoc, mul_comm, add-mul, mod-eq_of_lt, pow-suc, add-one, arith, leb-true, eqb-true, leb, length, get_or, take, drop, drop_of_length-le, length-drop, drop-cons}
use Rattle.std.proofs.lemmas.Bool.{false≢true}
use Rattle.std.proofs.Math.Bool.{or_assoc}
use Rattle.std.specs.Char.{is_ascii_hexdigit}
use Rattle.text.specs.Text.{between, is_digit, digit_of, each_digit, word_digits, is_word, followed_by, word_of}
use Rattle.lists.proofs.Cases.{both}

-- ---- a digit
pub inside : (low high b : ℕ) → between low high b ≡ true → (low ≤ b) × (b ≤ high)
inside low high b e = let p = both (leb low b) (leb b high) e in (leb-true low b p.0, leb-true b high p.1)

pub value_of_digit : (b : ℕ) → is_digit b ≡ true → (b % 16 + b / 64 * 9 ≡ digit_of b) × (digit_of b < 16)
unfolding is_digit digit_of
value_of_digit b e = go (between 48 57 b) (between 65 70 b) (between 97 102 b) (inside 48 57 b) (inside 65 70 b) (inside 97 102 b) e
  where
    go : (p q r : Bool) → (p ≡ true → (48 ≤ b) × (b ≤ 57)) → (q ≡ true → (65 ≤ b) × (b ≤ 70)) → (r ≡ true → (97 ≤ b) × (b ≤ 102)) → p || (q || r) ≡ true
        → (b % 16 + b / 64 * 9 ≡ cond p (b - 48) (cond q (b - 65 + 10) (b - 97 + 10))) × (cond p (b - 48) (cond q (b - 65 + 10) (b - 97 + 10)) < 16)
    go true q r f g h e = let i = f refl in (omega arith, omega arith)
    go false true r f g h e = let i = g refl in (omega arith, omega arith)
    go false false true f g h e = let i = h refl in (omega arith, omega arith)
    go false false false f g h e = absurd (false≢true e)

-- ---- a field
digit_by_library : (b : ℕ) → is_ascii_hexdigit b ≡ is_digit b
unfolding is_digit
digit_by_library b = or_assoc (between 48 57 b) (between 65 70 b) (between 97 102 b)

pub each_on : (field : List ℕ) (i : ℕ) (digits : Bool) → i < length field → digits && each_digit (drop i field) ≡ each_digit field
    → (digits && is_ascii_hexdigit (get_or field i 0)) && each_digit (drop (i + 1) field) ≡ each_digit field
unfolding each_digit
each_on field i true h e = rw (digit_by_library (get_or field i 0), add-one) (sym (ap each_digit (drop-cons field i 0 h)) ∙ e)
each_on field i false h e = e

pub long_enough : (n : ℕ) (l : List ℕ) → length (take n l) ≡ n → n ≤ length l
long_enough zero l e = zero-le
long_enough (suc n) [] e = absurd (omega arith)
long_enough (suc n) (x ∷ l) e = suc-le-suc (long_enough n l (omega arith))

pub each_digit_of : (a b : List ℕ) → each_digit (a ++ b) ≡ each_digit a && each_digit b
unfolding each_digit
each_digit_of [] b = refl
each_digit_of (x ∷ a) b = go (is_digit x) (each_digit_of a b)
  where
    go : (t : Bool) → each_digit (a ++ b) ≡ each_digit a && each_digit b → t && each_digit (a ++ b) ≡ (t && each_digit a) && each_digit b
    go true e = e
    go false e = refl

pub followed : (number : ℕ) (a b : List ℕ) → followed_by number (a ++ b) ≡ followed_by (followed_by number a) b
unfolding followed_by
followed number [] b = refl
followed number (x ∷ a) b = followed (number * 16 + digit_of x) a b

module _ (text : List ℕ) (at : ℕ) (e : is_word (take word_digits (drop at text)) ≡ true) where
  pub word_fits : at + word_digits ≤ length text
  unfolding is_word
  word_fits = omega (arith, long_enough word_digits (drop at text) (eqb-true _ _ (both _ _ e).0), length-drop at text)

-- ---- a word, digit by digit
-- a number in front of some digits counts as often as they are
in_front : (number : ℕ) (field : List ℕ) → followed_by number field ≡ number * 16 ^ length field + word_of field
unfolding followed_by word_of
in_front number [] = omega arith
in_front number (b ∷ field) =
    let p : number * 16 ^ suc (length field) ≡ number * 16 * 16 ^ length field =
    ap (λ (z : ℕ). number * z) (pow-suc 16 (length field) ∙ mul_comm (16 ^ length field) 16) ∙ sym (mul_assoc number 16 (16 ^ length field)) in
    omega (arith, p, in_front (number * 16 + digit_of b) field, in_front (0 * 16 + digit_of b) field, add-mul (number * 16) (digit_of b) (16 ^ length field))

by_fours : (n : ℕ) → 2 ^ (4 * n) ≡ 16 ^ n
by_fours zero = refl
by_fours (suc n) =
    let e : 4 * suc n ≡ suc (suc (suc (suc (4 * n)))) = omega arith in
    rw (e, pow-suc, pow-suc, pow-suc, pow-suc, pow-suc) (omega (arith, by_fours n))

-- The first k digits of a field, at their places, and the word of those that are left are its word.
pub record Summed (field : List ℕ) (number k : ℕ) : Type 0 where
  pub long : length field ≡ word_digits
  pub digits : each_digit (drop k field) ≡ true
  pub left : number + word_of (drop k field) ≡ word_of field

pub sums : (field : List ℕ) → is_word field ≡ true → Summed field 0 0
unfolding is_word
sums field e = let d = both _ _ e in record { long = eqb-true (length field) word_digits d.0; digits = d.1; left = omega arith }

module _ (field : List ℕ) (number k : ℕ) (h : k < length field) (s : Summed field number k) where
  here : drop k field ≡ get_or field k 0 ∷ drop (k + 1) field
  here = rw add-one (drop-cons field k 0 h)

  pub next_digit : is_digit (get_or field k 0) ≡ true
  unfolding each_digit
  next_digit = (both _ _ (rw here at s.digits)).0

  placed : word_of (drop k field) ≡ digit_of (get_or field k 0) * 16 ^ (7 - k) + word_of (drop (k + 1) field)
  unfolding word_of followed_by
  placed =
      let n : length (drop (k + 1) field) ≡ 7 - k = length-drop (k + 1) field ∙ omega (arith, s.long) in
      let z : 0 * 16 + digit_of (get_or field k 0) ≡ digit_of (get_or field k 0) = omega arith in
      let f = in_front (digit_of (get_or field k 0)) (drop (k + 1) field) in
      ap word_of here ∙ ap (λ (d : ℕ). followed_by d (drop (k + 1) field)) z ∙ rw n at f

  module _ (small : word_of field < 2 ^ 32) where
    -- a shift loses no bit
    shifted : digit_of (get_or field k 0) * 2 ^ (4 * (7 - k)) % 2 ^ 32 ≡ digit_of (get_or field k 0) * 16 ^ (7 - k)
    shifted = rw (by_fours (7 - k)) (mod-eq_of_lt (omega (arith, placed, s.left)))

    pub fits_on : number + digit_of (get_or field k 0) * 2 ^ (4 * (7 - k)) % 2 ^ 32 ≤ word_of field
    fits_on = omega (arith, shifted, placed, s.left)

    pub sums_on : Summed field (number + digit_of (get_or field k 0) * 2 ^ (4 * (7 - k)) % 2 ^ 32) (k + 1)
    unfolding each_digit
    sums_on = record { long = s.long; digits = (both _ _ (rw here at s.digits)).1; left = omega (arith, shifted, placed, s.left) }

pub summed : (field : List ℕ) (number k : ℕ) → length field ≤ k → Summed field number k → number ≡ word_of field
unfolding word_of followed_by
summed field number k h s = let l = rw (drop_of_length-le field {i = k} h) at s.left in omega arith

-- ---- how large a word is
digits_small : (number : ℕ) (field : List ℕ) → each_digit field ≡ true → followed_by number field < (number + 1) * 16 ^ length field
unfolding each_digit followed_by
digits_small number [] e = omega arith
digits_small number (b ∷ field) e =
    let d = both _ _ e in
    let l = (value_of_digit b d.0).1 in
    let next = digits_small (number * 16 + digit_of b) field d.1 in
    let m : (number * 16 + digit_of b + 1) * 16 ^ length field ≤ (number + 1) * 16 * 16 ^ length field = mul-le-mul_right (16 ^ length field) (omega arith) in
    let p : (number + 1) * 16 ^ suc (length field) ≡ (number + 1) * 16 * 16 ^ length field =
    ap (λ (z : ℕ). (number + 1) * z) (pow-suc 16 (length field) ∙ mul_comm (16 ^ length field) 16) ∙ sym (mul_assoc (number + 1) 16 (16 ^ length field)) in
    omega (arith, next, m, p)

pub word_small : (field : List ℕ) → is_word field ≡ true → word_of field < 2 ^ 32
unfolding is_word word_of
word_small field e =
    let d = both _ _ e in
    let n : length field ≡ word_digits = eqb-true (length field) word_digits d.0 in
    rw n at (digits_small 0 field d.1)
