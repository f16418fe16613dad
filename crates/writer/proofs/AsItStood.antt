-- Lines of words without a capital letter, in row order, are written as they stood; and every line that passes has its LF.
use Rattle.std.proofs.Common.{◌≡◌, refl, ap, ◌∙◌, true, List, [], ◌∷◌, map, ℕ, suc, eqb-true, eqb, length, take_at, drop_at, Ok}
use Rattle.std.proofs.lemmas.Bool.{false≢true}
use Rattle.std.proofs.Math.ListN.{length-map}
use Rattle.score.specs.Rows.{row_words}
use Rattle.text.specs.Text.{Line, ended, unended, contents, fields_of, first_of, rest_of, is_word, each_word, word_of, field_of, no_capital}
use Rattle.names.specs.declared.Source.{Source}
use Rattle.names.specs.Sources.{holds_names}
use Rattle.values.specs.Lines.{holds_words, row_of, rows_of}
use Rattle.reader.specs.Reading.{score_table, test_lines}
use Rattle.lists.proofs.Cases.{both}
use Rattle.text.proofs.Joining.{is_ended, each_ended, fields_on}
use Rattle.text.proofs.LowerDigits.{field_of_word, each_lower, lines_lower}
use Rattle.values.proofs.Values.{value}
use Rattle.reader.proofs.Accepted.{line_passes}
use Rattle.writer.specs.Writing.{row_lines}
use Rattle.writer.proofs.ReadBack.{columns, row_by_fields}

words_ended : (n : ℕ) (line : Line) → holds_words n line ≡ true → is_ended line ≡ true
unfolding holds_words
words_ended n (ended bs) w = refl
words_ended n (unended bs) w = absurd (false≢true w)

pub lines_ended : (n : ℕ) (sources : List Source) (lines : List Line) (at c : ℕ) → test_lines n sources true at lines ≡ Ok c → each_ended lines ≡ true
lines_ended n sources [] at c e = refl
lines_ended n sources (line ∷ lines) at c e =
    let p = line_passes n sources line lines at c e in
    rw (words_ended n line (value n sources at line true p.0)) (lines_ended n sources lines (suc at) c p.1)

-- the words of fields, written again
fields_back : (fields : List (List ℕ)) → each_word fields ≡ true → each_lower fields ≡ true → map field_of (map word_of fields) ≡ fields
unfolding each_word
fields_back [] w l = refl
fields_back (field ∷ fields) w l =
    let v = both (is_word field) (each_word fields) w in
    let k = both (no_capital field) (each_lower fields) l in
    rw (field_of_word field v.0 k.0, fields_back fields v.1 k.1)

line_back : (line : Line) → holds_words row_words line ≡ true → each_lower (fields_of (contents line)) ≡ true
    → (length (row_of columns line) ≡ row_words) × (map field_of (row_of columns line) ≡ fields_of (contents line))
unfolding holds_words
line_back (ended bs) w l =
    let d = both (eqb (length (fields_of bs)) row_words) (each_word (fields_of bs)) w in
    let n = eqb-true (length (fields_of bs)) row_words d.0 in
    let e = row_by_fields (ended bs) n in
    (ap length e ∙ length-map (fields_of bs) word_of ∙ n, ap (map field_of) e ∙ fields_back (fields_of bs) d.1 l)
line_back (unended bs) w l = absurd (false≢true w)

pub lines_back : (lines : List Line) (at c : ℕ) → test_lines row_words columns true at lines ≡ Ok c → lines_lower (fields_on lines) ≡ true
    → row_lines (length lines) (rows_of columns lines) ≡ fields_on lines
unfolding row_lines rows_of
lines_back [] at c e l = refl
lines_back (line ∷ lines) at c e l =
    let p = line_passes row_words columns line lines at c e in
    let k = both (each_lower (fields_of (contents line))) (lines_lower (fields_on lines)) l in
    let b = line_back line (value row_words columns at line true p.0) k.0 in
    let row = row_of columns line in
    let later = rows_of columns lines in
    rw (take_at row later row_words b.0, drop_at row later row_words b.0, b.1, lines_back lines (suc at) c p.1 k.1)

-- a text with names has a first line, which an LF ends
pub named : (lines : List Line) → holds_names score_table (first_of lines) ≡ true → (lines ≡ first_of lines ∷ rest_of lines) × (is_ended (first_of lines) ≡ true)
unfolding holds_names
named [] e = absurd (false≢true e)
named (ended bs ∷ lines) e = (refl, refl)
named (unended bs ∷ lines) e = absurd (false≢true e)
