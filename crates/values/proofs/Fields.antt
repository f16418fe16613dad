-- A line of words, word by word: after a word and a space come the words that are left, and after a word and an LF the lines that are left.
use Rattle.std.proofs.Common.{◌≡◌, refl, sym, ap, ◌∙◌, ⊎_elim, Bool, true, false, ◌&&◌, true≢false, List, [], ◌∷◌, ◌++◌, append-nil, ℕ, zero, suc, ◌+◌, ◌*◌, ◌≤◌, ◌<◌, eq-or-lt_of_le, arith, ltb-true, eqb-true, ne_eqb, eq-eqb, lt-ltb, ltb, eqb, length, get_or, take, drop, take-append-drop, length-drop, drop-cons, take-take, get_or-take, length-take-le, drop-drop}
use Rattle.std.proofs.Math.Dec.{eqb-suc-suc, eqb-suc-zero, eqb-zero-suc}
use Rattle.text.specs.Text.{lf, space, split, Line, ended, unended, contents, lined, lines_of, first_of, rest_of, fields_of, is_digit, each_digit, word_digits, is_word, each_word}
use Rattle.std.specs.List.{onto_first}
use Rattle.values.specs.Lines.{holds_words}
use Rattle.values.specs.Inner.{field_bytes, starts_word}
use Rattle.lists.proofs.Cases.{le_or_lt, both, and_true, and_false}
use Rattle.text.proofs.Split.{reach, first_piece, reach_fits, reach_at}
use Rattle.text.proofs.FirstLine.{lined_cut, first_line, open_line}

-- ---- bytes in front of a text that are no LF: they stand in front of its first line
abbrev put_on_line : List ℕ → Line → Line
put_on_line w (ended bs) = ended (w ++ bs)
put_on_line w (unended bs) = unended (w ++ bs)

first_of_pieces : (b : ℕ) (ps : List (List ℕ)) → first_of (lined (onto_first b ps)) ≡ put_on_line (b ∷ []) (first_of (lined ps))
first_of_pieces b [] = refl
first_of_pieces b ([] ∷ []) = refl
first_of_pieces b ((x ∷ q) ∷ []) = refl
first_of_pieces b ([] ∷ r ∷ qs) = refl
first_of_pieces b ((x ∷ q) ∷ r ∷ qs) = refl

rest_of_pieces : (b : ℕ) (ps : List (List ℕ)) → rest_of (lined (onto_first b ps)) ≡ rest_of (lined ps)
rest_of_pieces b [] = refl
rest_of_pieces b ([] ∷ []) = refl
rest_of_pieces b ((x ∷ q) ∷ []) = refl
rest_of_pieces b ([] ∷ r ∷ qs) = refl
rest_of_pieces b ((x ∷ q) ∷ r ∷ qs) = refl

on_line : (b : ℕ) (w : List ℕ) (line : Line) → put_on_line (b ∷ []) (put_on_line w line) ≡ put_on_line (b ∷ w) line
on_line b w (ended bs) = refl
on_line b w (unended bs) = refl

no_bytes : (line : Line) → line ≡ put_on_line [] line
no_bytes (ended bs) = refl
no_bytes (unended bs) = refl

module _ (cut : ℕ) (no : is_digit cut ≡ false) where
  -- a digit is no such byte
  other : (b : ℕ) → is_digit b ≡ true → eqb b cut ≡ false
  other b d = ne_eqb b cut (λ e. true≢false (sym d ∙ ap is_digit e ∙ no))

-- a word's digits, and a text after them
module _ (text : List ℕ) where
  first_after : (w : List ℕ) → each_digit w ≡ true → first_of (lines_of (w ++ text)) ≡ put_on_line w (first_of (lines_of text))
  unfolding lines_of split each_digit is_digit
  first_after [] e = no_bytes (first_of (lines_of text))
  first_after (b ∷ w) e =
      let p = both (is_digit b) (each_digit w) e in
      let h = first_after w p.1 in
      rw (other lf refl b p.0) (first_of_pieces b (split lf (w ++ text)) ∙ ap (put_on_line (b ∷ [])) h ∙ on_line b w (first_of (lines_of text)))

  rest_after : (w : List ℕ) → each_digit w ≡ true → rest_of (lines_of (w ++ text)) ≡ rest_of (lines_of text)
  unfolding lines_of split each_digit is_digit
  rest_after [] e = refl
  rest_after (b ∷ w) e =
      let p = both (is_digit b) (each_digit w) e in
      rw (other lf refl b p.0) (rest_of_pieces b (split lf (w ++ text)) ∙ rest_after w p.1)

  -- and one that starts with a space gives the word as a field
  field_after : (w : List ℕ) → each_digit w ≡ true → fields_of (w ++ (space ∷ text)) ≡ w ∷ fields_of text
  unfolding split each_digit is_digit
  field_after [] e = refl
  field_after (b ∷ w) e =
      let p = both (is_digit b) (each_digit w) e in
      rw (other space refl b p.0) (ap (onto_first b) (field_after w p.1))

field_alone : (w : List ℕ) → each_digit w ≡ true → fields_of w ≡ w ∷ []
unfolding split each_digit is_digit
field_alone [] e = refl
field_alone (b ∷ w) e =
    let p = both (is_digit b) (each_digit w) e in
    rw (other space refl b p.0) (ap (onto_first b) (field_alone w p.1))

-- ---- a text that starts with a word
module _ (follows : ℕ) (text : List ℕ) (e : starts_word follows text ≡ true) where
  parts : (ltb word_digits (length text) ≡ true) × (is_word (take word_digits text) && eqb (get_or text word_digits 0) follows ≡ true)
  unfolding starts_word
  parts = both (ltb word_digits (length text)) (is_word (take word_digits text) && eqb (get_or text word_digits 0) follows) e

  pub starts_long : word_digits < length text
  starts_long = ltb-true word_digits (length text) parts.0

  starts_word_lem : is_word (take word_digits text) ≡ true
  starts_word_lem = (both (is_word (take word_digits text)) (eqb (get_or text word_digits 0) follows) parts.1).0

  starts_digits : each_digit (take word_digits text) ≡ true
  unfolding is_word
  starts_digits = (both (eqb (length (take word_digits text)) word_digits) (each_digit (take word_digits text)) starts_word_lem).1

  starts_as : text ≡ take word_digits text ++ (follows ∷ drop (suc word_digits) text)
  starts_as =
      let b = eqb-true (get_or text word_digits 0) follows (both (is_word (take word_digits text)) (eqb (get_or text word_digits 0) follows) parts.1).1 in
      sym (take-append-drop word_digits text) ∙ ap (λ (l : List ℕ). take word_digits text ++ l) (drop-cons text word_digits 0 starts_long ∙ ap (λ (x : ℕ). x ∷ drop (suc word_digits) text) b)

-- a word and a space
module _ (text : List ℕ) (e : starts_word space text ≡ true) where
  line_on : first_of (lines_of text) ≡ put_on_line (take word_digits text) (put_on_line (space ∷ []) (first_of (lines_of (drop (suc word_digits) text))))
  unfolding lines_of split
  line_on =
      ap (λ (l : List ℕ). first_of (lines_of l)) (starts_as space text e)
      ∙ first_after (space ∷ drop (suc word_digits) text) (take word_digits text) (starts_digits space text e)
      ∙ ap (put_on_line (take word_digits text)) (first_of_pieces space (split lf (drop (suc word_digits) text)))

  lines_on : rest_of (lines_of text) ≡ rest_of (lines_of (drop (suc word_digits) text))
  unfolding lines_of split
  lines_on =
      ap (λ (l : List ℕ). rest_of (lines_of l)) (starts_as space text e)
      ∙ rest_after (space ∷ drop (suc word_digits) text) (take word_digits text) (starts_digits space text e)
      ∙ rest_of_pieces space (split lf (drop (suc word_digits) text))

  fields_on_lem : fields_of (contents (first_of (lines_of text))) ≡ take word_digits text ∷ fields_of (contents (first_of (lines_of (drop (suc word_digits) text))))
  fields_on_lem = rw line_on (go (first_of (lines_of (drop (suc word_digits) text))))
    where
      go : (line : Line) → fields_of (contents (put_on_line (take word_digits text) (put_on_line (space ∷ []) line))) ≡ take word_digits text ∷ fields_of (contents line)
      go (ended bs) = field_after bs (take word_digits text) (starts_digits space text e)
      go (unended bs) = field_after bs (take word_digits text) (starts_digits space text e)

  pub words_on : (count : ℕ) → holds_words (suc count) (first_of (lines_of text)) ≡ holds_words count (first_of (lines_of (drop (suc word_digits) text)))
  unfolding holds_words each_word
  words_on count = rw line_on (go (first_of (lines_of (drop (suc word_digits) text))))
    where
      go : (line : Line) → holds_words (suc count) (put_on_line (take word_digits text) (put_on_line (space ∷ []) line)) ≡ holds_words count line
      go (ended bs) = rw (field_after bs (take word_digits text) (starts_digits space text e), eqb-suc-suc (length (fields_of bs)) count, starts_word_lem space text e)
      go (unended bs) = refl

-- a word and an LF
module _ (text : List ℕ) (e : starts_word lf text ≡ true) where
  line_ends : first_of (lines_of text) ≡ ended (take word_digits text)
  unfolding lines_of split
  line_ends =
      ap (λ (l : List ℕ). first_of (lines_of l)) (starts_as lf text e)
      ∙ first_after (lf ∷ drop (suc word_digits) text) (take word_digits text) (starts_digits lf text e)
      ∙ ap (λ (ls : List Line). put_on_line (take word_digits text) (first_of ls)) (lined_cut [] (drop (suc word_digits) text))
      ∙ ap ended (append-nil (take word_digits text))

  lines_left : rest_of (lines_of text) ≡ lines_of (drop (suc word_digits) text)
  unfolding lines_of split
  lines_left =
      ap (λ (l : List ℕ). rest_of (lines_of l)) (starts_as lf text e)
      ∙ rest_after (lf ∷ drop (suc word_digits) text) (take word_digits text) (starts_digits lf text e)
      ∙ ap rest_of (lined_cut [] (drop (suc word_digits) text))

  field_ends : fields_of (contents (first_of (lines_of text))) ≡ take word_digits text ∷ []
  field_ends = rw line_ends (field_alone (take word_digits text) (starts_digits lf text e))

  one_word : (count : ℕ) → holds_words (suc count) (first_of (lines_of text)) ≡ eqb 0 count
  unfolding holds_words each_word
  one_word count = rw (line_ends, field_alone (take word_digits text) (starts_digits lf text e), starts_word_lem lf text e, eqb-suc-suc 0 count, and_true)

-- ---- a text that starts otherwise: its first line holds no words
starts_with : (follows : ℕ) (text : List ℕ) → word_digits < length text → is_word (take word_digits text) ≡ true → get_or text word_digits 0 ≡ follows → starts_word follows text ≡ true
unfolding starts_word
starts_with follows text h w b = rw (lt-ltb word_digits (length text) h, w, eq-eqb (get_or text word_digits 0) follows b)

module _ (text : List ℕ) (no_space : starts_word space text ≡ false) (no_lf : starts_word lf text ≡ false) where
  module _ (end : ℕ) (e : end ≡ reach lf text) (h : end < length text) (k : ℕ) (r : k ≡ reach space (take end text)) (w : is_word (take k (take end text)) ≡ true) where
    long : length (take end text) ≡ end
    long = length-take-le end text (omega arith)

    up_to : k ≤ end
    up_to = omega (arith, reach_fits space (take end text), long)

    eight : k ≡ word_digits
    unfolding is_word
    eight =
        let p = (both (eqb (length (take k (take end text))) word_digits) (each_digit (take k (take end text))) w).0 in
        sym (length-take-le k (take end text) (omega (arith, long, up_to))) ∙ eqb-true (length (take k (take end text))) word_digits p

    word : is_word (take word_digits text) ≡ true
    word = ap is_word (sym (take-take word_digits end text (omega (arith, eight, up_to)))) ∙ ap (λ (n : ℕ). is_word (take n (take end text))) (sym eight) ∙ w

    clash : ⊥
    clash =
        ⊎_elim
        (λ (l : k ≡ end). true≢false (sym (starts_with lf text (omega (arith, eight)) word (ap (λ (n : ℕ). get_or text n 0) (sym eight ∙ l ∙ e) ∙ reach_at lf text (omega arith))) ∙ no_lf))
        (λ (l : k < end). true≢false (sym (starts_with space text (omega (arith, eight)) word
        (sym (get_or-take end text word_digits 0 (omega (arith, eight))) ∙ ap (λ (n : ℕ). get_or (take end text) n 0) (sym eight ∙ r) ∙ reach_at space (take end text) (omega (arith, long)))) ∙ no_space))
        (eq-or-lt_of_le up_to)

  other_field : (end : ℕ) → end ≡ reach lf text → end < length text → is_word (take (reach space (take end text)) (take end text)) ≡ false
  other_field end e h = go (is_word (take (reach space (take end text)) (take end text))) refl
    where
      go : (b : Bool) → is_word (take (reach space (take end text)) (take end text)) ≡ b → b ≡ false
      go true w = absurd (clash end e h (reach space (take end text)) refl w)
      go false w = refl

  no_words : (count : ℕ) → holds_words (suc count) (first_of (lines_of text)) ≡ false
  unfolding holds_words each_word
  no_words count = ⊎_elim (λ h. rw (open_line text h)) closed (le_or_lt (length text) (reach lf text))
    where
      closed : reach lf text < length text → holds_words (suc count) (first_of (lines_of text)) ≡ false
      closed h = rw (first_line text (reach lf text) refl h, first_piece space (take (reach lf text) text), other_field (reach lf text) refl h, and_false)

-- ---- the three tests of a line, word by word
pub no_space_no_words : (text : List ℕ) → starts_word space text ≡ false → (count : ℕ) → holds_words (suc (suc count)) (first_of (lines_of text)) ≡ false
no_space_no_words text e count = go (starts_word lf text) refl
  where
    go : (b : Bool) → starts_word lf text ≡ b → holds_words (suc (suc count)) (first_of (lines_of text)) ≡ false
    go true f = one_word text f (suc count) ∙ eqb-zero-suc count
    go false f = no_words text e f (suc count)

no_field : (line : Line) → holds_words 0 line ≡ false
unfolding holds_words
no_field (ended bs) = rw (first_piece space bs, eqb-suc-zero)
no_field (unended bs) = refl

pub last_word : (text : List ℕ) → holds_words 1 (first_of (lines_of text)) ≡ starts_word lf text
last_word text = go (starts_word lf text) (starts_word space text) refl refl
  where
    go : (b s : Bool) → starts_word lf text ≡ b → starts_word space text ≡ s → holds_words 1 (first_of (lines_of text)) ≡ b
    go true s f g = one_word text f 0
    go false true f g = words_on text g 0 ∙ no_field (first_of (lines_of (drop (suc word_digits) text)))
    go false false f g = no_words text g f 0

-- ---- a line that holds words: where each field stands, and where the next line starts
pub record Right (count : ℕ) (text : List ℕ) : Type 0 where
  pub fits : count * field_bytes ≤ length text
  pub rest : rest_of (lines_of text) ≡ lines_of (drop (count * field_bytes) text)
  pub field : (c : ℕ) → c < count → get_or (fields_of (contents (first_of (lines_of text)))) c [] ≡ take word_digits (drop (c * field_bytes) text)
  pub word : (c : ℕ) → c < count → is_word (take word_digits (drop (c * field_bytes) text)) ≡ true

right_one : (text : List ℕ) → starts_word lf text ≡ true → Right 1 text
right_one text e =
    record { fits = starts_long lf text e; rest = lines_left text e; field = field; word = word }
  where
    field : (c : ℕ) → c < 1 → get_or (fields_of (contents (first_of (lines_of text)))) c [] ≡ take word_digits (drop (c * field_bytes) text)
    field zero h = rw (field_ends text e)
    field (suc c) h = absurd (omega arith)

    word : (c : ℕ) → c < 1 → is_word (take word_digits (drop (c * field_bytes) text)) ≡ true
    word zero h = starts_word_lem lf text e
    word (suc c) h = absurd (omega arith)

right_more : (count : ℕ) (text : List ℕ) → starts_word space text ≡ true → Right count (drop field_bytes text) → Right (suc count) text
right_more count text e r =
    record {
      fits = omega (arith, r.fits, length-drop field_bytes text, starts_long space text e);
      rest = lines_on text e ∙ r.rest ∙ ap lines_of (past count);
      field = field;
      word = word;
    }
  where
    past : (c : ℕ) → drop (c * field_bytes) (drop field_bytes text) ≡ drop (suc c * field_bytes) text
    past c = let n : suc c * 9 ≡ 9 + c * 9 = omega arith in drop-drop (c * field_bytes) field_bytes text ∙ sym (ap (λ (k : ℕ). drop k text) n)

    field : (c : ℕ) → c < suc count → get_or (fields_of (contents (first_of (lines_of text)))) c [] ≡ take word_digits (drop (c * field_bytes) text)
    field zero h = rw (fields_on_lem text e)
    field (suc c) h = rw (fields_on_lem text e) (r.field c (omega arith) ∙ ap (take word_digits) (past c))

    word : (c : ℕ) → c < suc count → is_word (take word_digits (drop (c * field_bytes) text)) ≡ true
    word zero h = starts_word_lem space text e
    word (suc c) h = ap (λ (l : List ℕ). is_word (take word_digits l)) (sym (past c)) ∙ r.word c (omega arith)

pub right : (count : ℕ) (text : List ℕ) → holds_words (suc count) (first_of (lines_of text)) ≡ true → Right (suc count) text
right zero text h = right_one text (sym (last_word text) ∙ h)
right (suc count) text h = go (starts_word space text) refl (right count (drop field_bytes text))
  where
    go : (b : Bool) → starts_word space text ≡ b → (holds_words (suc count) (first_of (lines_of (drop field_bytes text))) ≡ true → Right (suc count) (drop field_bytes text)) → Right (suc (suc count)) text
    go true e r = right_more (suc count) text e (r (sym (words_on text e (suc count)) ∙ h))
    go false e r = absurd (true≢false (sym h ∙ no_space_no_words text e count))
