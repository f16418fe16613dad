-- The words of a text that was read have 32 bits: each stands in a column, as eight digits.
use Rattle.std.proofs.Common.{◌≡◌, refl, true, List, [], ◌∷◌, ◌++◌, ℕ, zero, suc, ◌^◌, ◌<◌, arith, eqb-true, ltb-true, eqb, length, get_or, Ok, Option, Some, None}
use Rattle.std.proofs.lemmas.Bool.{false≢true}
use Rattle.text.specs.Text.{column_of, Line, ended, unended, contents, fields_of, lines_of, first_of, rest_of, is_word, each_word}
use Rattle.names.specs.declared.Source.TheVariants.{Column, Missing}
use Rattle.names.specs.Sources.{Entry, source_at, source_of, sources_of, readable, each_readable, holds_names}
use Rattle.values.specs.Lines.{holds_words, word_from, row_of, rows_of}
use Rattle.reader.specs.Reading.{score_table, test_lines, test_text, text_rows}
use Rattle.lists.proofs.Cases.{both}
use Rattle.text.proofs.Digits.{word_small}
use Rattle.values.proofs.Values.{value}
use Rattle.reader.proofs.Accepted.{line_passes}
use Rattle.reader.proofs.Accepted as accepting
use Rattle.reader.proofs.Settling.{all_readable}
use Rattle.writer.specs.Tidy.{rows_in}
use Rattle.writer.proofs.ReadBack.{Fit}

fit_append : (a b : List ℕ) → Fit a → Fit b → Fit (a ++ b)
fit_append [] b f g = g
fit_append (w ∷ a) b f g = (f.0, fit_append a b f.1 g)

word_at : (fields : List (List ℕ)) (k : ℕ) → k < length fields → each_word fields ≡ true → is_word (get_or fields k []) ≡ true
unfolding each_word
word_at [] k h e = absurd (omega arith)
word_at (field ∷ fields) zero h e = (both (is_word field) (each_word fields) e).0
word_at (field ∷ fields) (suc k) h e = word_at fields k (omega arith) (both (is_word field) (each_word fields) e).1

column_fits : (n column : ℕ) (line : Line) → column < n → holds_words n line ≡ true → word_from line (Column column) < 2 ^ 32
unfolding holds_words
column_fits n column (ended bs) h w =
    let d = both (eqb (length (fields_of bs)) n) (each_word (fields_of bs)) w in
    word_small (get_or (fields_of bs) column []) (word_at (fields_of bs) column (omega (arith, eqb-true (length (fields_of bs)) n d.0)) d.1)
column_fits n column (unended bs) h w = absurd (false≢true w)

source_fits : (fields : List (List ℕ)) (n : ℕ) (entry : Entry) → entry.absent ≡ Missing → readable n (source_of fields entry) ≡ true
    → (line : Line) → holds_words n line ≡ true → word_from line (source_of fields entry) < 2 ^ 32
source_fits fields n entry a r line w = go (column_of entry.spelling fields) r
  where
    go : (column : Option ℕ) → readable n (source_at column entry.absent) ≡ true → word_from line (source_at column entry.absent) < 2 ^ 32
    go (Some column) r = column_fits n column line (ltb-true column n r) w
    go None r = absurd (false≢true (rw a at r))

abbrev NoneAbsent : List Entry → Type 0
NoneAbsent [] = Unit {0}
NoneAbsent (entry ∷ table) = (entry.absent ≡ Missing) × NoneAbsent table

row_fits : (table : List Entry) → NoneAbsent table → (fields : List (List ℕ)) (n : ℕ) → each_readable n (sources_of table fields) ≡ true
    → (line : Line) → holds_words n line ≡ true → Fit (row_of (sources_of table fields) line)
unfolding sources_of each_readable row_of
row_fits [] a fields n r line w = tt
row_fits (entry ∷ table) a fields n r line w =
    let d = both (readable n (source_of fields entry)) (each_readable n (sources_of table fields)) r in
    (source_fits fields n entry a.0 d.0 line w, row_fits table a.1 fields n d.1 line w)

rows_fit : (fields : List (List ℕ)) (n : ℕ) → each_readable n (sources_of score_table fields) ≡ true
    → (lines : List Line) (at c : ℕ) → test_lines n (sources_of score_table fields) true at lines ≡ Ok c → Fit (rows_of (sources_of score_table fields) lines)
unfolding rows_of score_table
rows_fit fields n r [] at c e = tt
rows_fit fields n r (line ∷ lines) at c e =
    let sources = sources_of score_table fields in
    let p = line_passes n sources line lines at c e in
    fit_append (row_of sources line) (rows_of sources lines)
    (row_fits score_table (refl, (refl, (refl, (refl, (refl, tt))))) fields n r line (value n sources at line true p.0))
    (rows_fit fields n r lines (suc at) c p.1)

names_readable : (line : Line) → holds_names score_table line ≡ true → each_readable (length (fields_of (contents line))) (sources_of score_table (fields_of (contents line))) ≡ true
unfolding holds_names
names_readable (ended bs) e = all_readable (length (fields_of bs)) (sources_of score_table (fields_of bs)) e
names_readable (unended bs) e = absurd (false≢true e)

pub text_fits : (text : List ℕ) (c : ℕ) → test_text score_table true (lines_of text) ≡ Ok c → Fit (rows_in text)
unfolding text_rows
text_fits text c e =
    let p = accepting.text_passes (lines_of text) c e in
    rows_fit _ _ (names_readable (first_of (lines_of text)) p.0) (rest_of (lines_of text)) 0 c p.1
