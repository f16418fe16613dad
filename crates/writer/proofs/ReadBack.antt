-- A written text is read as what was written: its lines and fields are those that were put, and each word is read as itself.
use Rattle.std.proofs.Common.{◌≡◌, refl, sym, ap, ◌∙◌, Bool, true, false, cond, true≢false, List, [], ◌∷◌, map, ℕ, zero, suc, ◌+◌, ◌*◌, ◌^◌, ◌≤◌, ◌<◌, suc-mul, arith, length, get_or, take, drop, length-drop, length-take-le, take-add, Ok, Option, Some, None, option_map, is_some}
use Rattle.std.proofs.Math.ListN.{length-map}
use Rattle.lists.specs.Lists.{same}
use Rattle.score.specs.Rows.{row_words}
use Rattle.score.specs.Limits.{row_within, first_bad}
use Rattle.text.specs.Text.{lf, space, split, joined, Line, contents, fields_of, lines_of, column_of, is_digit, each_word, word_of, field_of}
use Rattle.names.specs.declared.Source.{Source}
use Rattle.names.specs.declared.Source.TheVariants.{Column}
use Rattle.names.specs.Sources.{sources_of, column_count, each_readable, each_once, holds_names}
use Rattle.values.specs.Lines.{holds_words, row_of, rows_of, test_line}
use Rattle.score.specs.Numbers.{accepted}
use Rattle.reader.specs.Reading.{score_table, test_lines, test_text, text_rows}
use Rattle.text.proofs.Joining.{each_lacks, lacks_joined, split_joined, written, each_line, lines_written}
use Rattle.text.proofs.LowerDigits.{field_is_word, word_of_field, field_lacks}
use Rattle.writer.specs.Writing.{names, row_lines, score_text}

-- ---- words of 32 bits
abbrev pub Fit : List ℕ → Type 0
Fit [] = Unit {0}
Fit (w ∷ ws) = (w < 2 ^ 32) × Fit ws

pub fit_each : (ws : List ℕ) → ((i : ℕ) → get_or ws i 0 < 2 ^ 32) → Fit ws
fit_each [] f = tt
fit_each (w ∷ ws) f = (f 0, fit_each ws (λ i. f (suc i)))

pub fit_drop : (n : ℕ) (ws : List ℕ) → Fit ws → Fit (drop n ws)
fit_drop zero ws f = f
fit_drop (suc n) [] f = f
fit_drop (suc n) (w ∷ ws) f = fit_drop n ws f.1

fit_take : (n : ℕ) (ws : List ℕ) → Fit ws → Fit (take n ws)
fit_take zero ws f = tt
fit_take (suc n) [] f = tt
fit_take (suc n) (w ∷ ws) f = (f.0, fit_take n ws f.1)

-- ---- the line of a row
fields_lack : (at : ℕ) → is_digit at ≡ false → (row : List ℕ) → each_lacks at (map field_of row) ≡ true
fields_lack at n [] = refl
fields_lack at n (w ∷ row) = rw (field_lacks at n w) (fields_lack at n row)

-- The line that holds the words of a row.
abbrev row_line : List ℕ → Line
row_line row = written (map field_of row)

row_fields : (row : List ℕ) → 0 < length row → fields_of (joined space (map field_of row)) ≡ map field_of row
unfolding is_digit
row_fields [] h = absurd (omega arith)
row_fields (w ∷ row) h = split_joined space (field_of w) (map field_of row) (fields_lack space refl (w ∷ row))

each_word_lem : (row : List ℕ) → each_word (map field_of row) ≡ true
unfolding each_word
each_word_lem [] = refl
each_word_lem (w ∷ row) = rw (field_is_word w) (each_word_lem row)

words_back : (row : List ℕ) → Fit row → map word_of (map field_of row) ≡ row
words_back [] f = refl
words_back (w ∷ row) f = rw (word_of_field w f.0, words_back row f.1)

-- Where each word stands in a tidy text.
abbrev pub columns : List Source
columns = Column 0 ∷ Column 1 ∷ Column 2 ∷ Column 3 ∷ Column 4 ∷ []

five_words : (fields : List (List ℕ)) → length fields ≡ row_words
    → word_of (get_or fields 0 []) ∷ word_of (get_or fields 1 []) ∷ word_of (get_or fields 2 []) ∷ word_of (get_or fields 3 []) ∷ word_of (get_or fields 4 []) ∷ [] ≡ map word_of fields
five_words [] h = absurd (omega arith)
five_words (a ∷ []) h = absurd (omega arith)
five_words (a ∷ b ∷ []) h = absurd (omega arith)
five_words (a ∷ b ∷ c ∷ []) h = absurd (omega arith)
five_words (a ∷ b ∷ c ∷ d ∷ []) h = absurd (omega arith)
five_words (a ∷ b ∷ c ∷ d ∷ e ∷ []) h = refl
five_words (a ∷ b ∷ c ∷ d ∷ e ∷ f ∷ fields) h = absurd (omega arith)

pub row_by_fields : (line : Line) → length (fields_of (contents line)) ≡ row_words → row_of columns line ≡ map word_of (fields_of (contents line))
unfolding row_of
row_by_fields line h = five_words (fields_of (contents line)) h

row_back : (row : List ℕ) → length row ≡ row_words → Fit row → (holds_words row_words (row_line row) ≡ true) × (row_of columns (row_line row) ≡ row)
unfolding holds_words
row_back row h f =
    let e = row_fields row (omega arith) in
    let l : length (fields_of (joined space (map field_of row))) ≡ row_words = ap length e ∙ length-map row field_of ∙ h in
    (rw (l, e) (each_word_lem row), row_by_fields (row_line row) l ∙ ap (map word_of) e ∙ words_back row f)

row_passes : (row : List ℕ) → length row ≡ row_words → Fit row → row_within row ≡ true → (at : ℕ) → test_line row_words columns true at (row_line row) ≡ accepted
unfolding test_line
row_passes row h f w at = let b = row_back row h f in rw (b.0, b.1, w)

-- ---- the lines of the rows
five : (count : ℕ) (rows : List ℕ) → suc count * row_words ≤ length rows → length (take row_words rows) ≡ row_words
five count rows h = length-take-le row_words rows (omega (arith, suc-mul count row_words))

others : (count : ℕ) (rows : List ℕ) → suc count * row_words ≤ length rows → count * row_words ≤ length (drop row_words rows)
others count rows h = omega (arith, suc-mul count row_words, length-drop row_words rows)

pub rows_back : (count : ℕ) (rows : List ℕ) → count * row_words ≤ length rows → Fit rows → rows_of columns (map written (row_lines count rows)) ≡ take (count * row_words) rows
unfolding row_lines rows_of
rows_back zero rows h f = refl
rows_back (suc count) rows h f =
    let n : suc count * row_words ≡ row_words + count * row_words = omega arith in
    let one = (row_back (take row_words rows) (five count rows h) (fit_take row_words rows f)).1 in
    let more = rows_back count (drop row_words rows) (others count rows h) (fit_drop row_words rows f) in
    rw (one, more, n) (sym (take-add row_words (count * row_words) rows))

-- rows none of which is bad
none_bad : (count : ℕ) (rows : List ℕ) → first_bad (suc count) rows ≡ None → (row_within (take row_words rows) ≡ true) × (first_bad count (drop row_words rows) ≡ None)
unfolding first_bad
none_bad count rows e = go (row_within (take row_words rows)) (first_bad count (drop row_words rows)) e
  where
    go : (b : Bool) (o : Option ℕ) → cond b (option_map suc o) (Some 0) ≡ None → (b ≡ true) × (o ≡ None)
    go true None e = (refl, refl)
    go true (Some k) e = absurd (true≢false (ap is_some e))
    go false o e = absurd (true≢false (ap is_some e))

pub lines_pass : (count : ℕ) (rows : List ℕ) (at : ℕ) → count * row_words ≤ length rows → Fit rows → first_bad count rows ≡ None
    → test_lines row_words columns true at (map written (row_lines count rows)) ≡ Ok (at + count)
unfolding row_lines test_lines
lines_pass zero rows at h f e = ap (λ (n : ℕ). Ok n) (omega arith)
lines_pass (suc count) rows at h f e =
    let b = none_bad count rows e in
    let n : suc at + count ≡ at + suc count = omega arith in
    rw (row_passes (take row_words rows) (five count rows h) (fit_take row_words rows f) b.0 at)
    (lines_pass count (drop row_words rows) (suc at) (others count rows h) (fit_drop row_words rows f) b.1 ∙ ap (λ (k : ℕ). Ok k) n)

-- ---- the text
rows_on_lines : (count : ℕ) (rows : List ℕ) → each_line (row_lines count rows) ≡ true
unfolding row_lines is_digit
rows_on_lines zero rows = refl
rows_on_lines (suc count) rows =
    rw (lacks_joined lf space refl (map field_of (take row_words rows)) (fields_lack lf refl (take row_words rows))) (rows_on_lines count (drop row_words rows))

pub text_lines : (count : ℕ) (rows : List ℕ) → lines_of (score_text count rows) ≡ written names ∷ map written (row_lines count rows)
unfolding score_text names score_table joined
text_lines count rows = lines_written (names ∷ row_lines count rows) (rows_on_lines count rows)

-- the line of names, by its fields
pub names_fields : fields_of (joined space names) ≡ names
unfolding names score_table joined split
names_fields = refl

names_held : holds_names score_table (written names) ≡ true
unfolding holds_names names score_table sources_of each_once each_readable column_count column_of same joined split
names_held = refl

pub names_columns : sources_of score_table names ≡ columns
unfolding names score_table sources_of column_of same
names_columns = refl

pub five_names : length names ≡ row_words
unfolding names score_table
five_names = refl

module _ (count : ℕ) (rows : List ℕ) (h : count * row_words ≤ length rows) (f : Fit rows) where
  pub text_rows_lem : text_rows score_table (lines_of (score_text count rows)) ≡ take (count * row_words) rows
  unfolding text_rows
  text_rows_lem = rw (text_lines count rows, names_fields, names_columns) (rows_back count rows h f)

  pub text_passes : first_bad count rows ≡ None → test_text score_table true (lines_of (score_text count rows)) ≡ Ok count
  unfolding test_text
  text_passes e =
      let n : 0 + count ≡ count = omega arith in
      rw (text_lines count rows, names_held, names_fields, names_columns, five_names) (lines_pass count rows 0 h f e ∙ ap (λ (k : ℕ). Ok k) n)
