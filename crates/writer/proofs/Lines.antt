-- Lines as they are written, from the front: a word and the byte after it, then what follows; a row's line, then the others; and their lengths.
use Rattle.std.proofs.Common.{◌≡◌, refl, sym, ap, ◌∙◌, List, [], ◌∷◌, ◌++◌, map, append-nil, append_assoc, ℕ, zero, suc, ◌+◌, ◌-◌, ◌*◌, ◌≤◌, ◌<◌, suc-mul, add-one, arith, length, get_or, take, drop, set, length-append, length-drop, drop_of_length-le, drop-cons, drop-drop, length-take-le}
use Rattle.std.proofs.Math.Seq.{set_at}
use Rattle.score.specs.Rows.{row_words}
use Rattle.text.specs.Text.{bytes, lf, space, joined, line_of, text_of, field_of}
use Rattle.text.proofs.LowerDigits.{field_long}
use Rattle.values.specs.Inner.{field_bytes}
use Rattle.reader.specs.Reading.{score_table}
use Rattle.writer.specs.Writing.{names_bytes, row_bytes, text_bytes, names, row_lines, score_text}

pub then_long : (word after : ℕ) → length (field_of word ++ after ∷ []) ≡ field_bytes
then_long word after = rw (length-append, field_long word)

-- the byte after some bytes
pub then_put : (n : ℕ) (text field : List ℕ) (after : ℕ) → length text ≡ suc n → length field ≡ n → set (field ++ drop n text) n after ≡ field ++ after ∷ []
then_put n text field after h e =
    let d : drop n text ≡ get_or text n 0 ∷ [] =
    drop-cons text n 0 (omega arith) ∙ ap (λ (z : List ℕ). get_or text n 0 ∷ z) (drop_of_length-le text {i = suc n} (omega arith)) in
    rw d (set_at field (get_or text n 0) [] after n e)

-- ---- the line of some words, from word k on: none is left of it once all words stand there
abbrev pub words_left : List ℕ → List ℕ
words_left [] = []
words_left (w ∷ []) = field_of w ++ lf ∷ []
words_left (w ∷ v ∷ ws) = (field_of w ++ space ∷ []) ++ words_left (v ∷ ws)

pub whole_line : (row : List ℕ) → 0 < length row → words_left row ≡ line_of (map field_of row)
unfolding joined
whole_line [] h = absurd (omega arith)
whole_line (w ∷ []) h = refl
whole_line (w ∷ v ∷ ws) h = ap (λ (z : List ℕ). (field_of w ++ space ∷ []) ++ z) (whole_line (v ∷ ws) (omega arith)) ∙ append_assoc (field_of w) (space ∷ []) _ ∙ sym (append_assoc (field_of w) _ _)

module _ (row : List ℕ) where
  abbrev pub line_from : ℕ → List ℕ
  line_from k = words_left (drop k row)

  pub line_more : (k : ℕ) → k + 1 < length row → line_from k ≡ (field_of (get_or row k 0) ++ space ∷ []) ++ line_from (k + 1)
  line_more k h = rw (add-one, drop-cons row k 0 (omega arith), drop-cons row (suc k) 0 (omega arith)) refl

  pub line_last : (k : ℕ) → k + 1 ≡ length row → line_from k ≡ (field_of (get_or row k 0) ++ lf ∷ []) ++ line_from (k + 1)
  line_last k h = rw (add-one, drop-cons row k 0 (omega arith), drop_of_length-le row {i = suc k} (omega arith)) (sym (append-nil _))

  pub line_none : line_from (length row) ≡ []
  line_none = rw (drop_of_length-le row {i = length row} (omega arith))

pub line_long : (row : List ℕ) → 0 < length row → length (line_of (map field_of row)) ≡ length row * field_bytes
unfolding joined
line_long [] h = absurd (omega arith)
line_long (w ∷ []) h = rw (length-append, field_long w)
line_long (w ∷ v ∷ ws) h =
    let e = line_long (v ∷ ws) (omega arith) in
    rw (append_assoc (field_of w) _ (lf ∷ []), length-append, field_long w) (omega (arith, e))

-- ---- the lines of the rows, from row k on
module _ (count : ℕ) (rows : List ℕ) where
  abbrev pub rows_from : ℕ → List ℕ
  rows_from k = text_of (row_lines (count - k) (drop (k * row_words) rows))

  pub rows_more : (k : ℕ) → k < count → rows_from k ≡ line_of (map field_of (take row_words (drop (k * row_words) rows))) ++ rows_from (k + 1)
  unfolding row_lines text_of
  rows_more k h =
      let n : count - k ≡ suc (count - (k + 1)) = omega arith in
      let j : k * row_words + row_words ≡ (k + 1) * row_words = omega arith in
      let d : drop row_words (drop (k * row_words) rows) ≡ drop ((k + 1) * row_words) rows =
      drop-drop row_words (k * row_words) rows ∙ ap (λ (i : ℕ). drop i rows) j in
      rw (n, d)

  pub rows_none : rows_from count ≡ []
  unfolding row_lines text_of
  rows_none = let n : count - count ≡ 0 = omega arith in rw n

  pub rows_all : rows_from 0 ≡ text_of (row_lines count rows)
  rows_all = let n : count - 0 ≡ count = omega arith in rw n

pub row_long : (rows : List ℕ) → row_words ≤ length rows → length (line_of (map field_of (take row_words rows))) ≡ row_bytes
row_long rows h =
    let e = length-take-le row_words rows h in
    line_long (take row_words rows) (omega (arith, e)) ∙ ap (λ (n : ℕ). n * field_bytes) e

pub rows_long : (count : ℕ) (rows : List ℕ) → count * row_words ≤ length rows → length (text_of (row_lines count rows)) ≡ count * row_bytes
unfolding row_lines text_of
rows_long zero rows h = refl
rows_long (suc count) rows h =
    let e = row_long rows (omega (arith, suc-mul count row_words)) in
    let f = rows_long count (drop row_words rows) (omega (arith, suc-mul count row_words, length-drop row_words rows)) in
    rw (length-append, e, f) (omega arith)

pub names_spelt : line_of names ≡ bytes "note timbre morph harmonics restart" ++ lf ∷ []
unfolding names score_table joined
names_spelt = refl

pub names_long : length (line_of names) ≡ names_bytes
names_long = ap length names_spelt

pub score_text_lem : (count : ℕ) (rows : List ℕ) → line_of names ++ text_of (row_lines count rows) ≡ score_text count rows
unfolding score_text text_of
score_text_lem count rows = refl

pub text_long : (count : ℕ) (rows : List ℕ) → count * row_words ≤ length rows → length (score_text count rows) ≡ text_bytes count
text_long count rows h = ap length (sym (score_text_lem count rows)) ∙ rw (length-append, names_long, rows_long count rows h)
