-- Document 01's own limits and texts, by the definitions: each fact is a computation.
use Rattle.std.proofs.Common.{◌≡◌, refl, true, false, List, [], ◌∷◌, ◌++◌, ℕ, replicate, Ok}
use Rattle.std.specs.Float.Ieee.{of_bits, le}
use Rattle.words.specs.Binary32.{decimal}
use Rattle.lists.specs.Lists.{same}
use Rattle.score.specs.Rows.{note, timbre, restart}
use Rattle.score.specs.Limits.{float_to, limit, row_within}
use Rattle.score.specs.declared.refusal.Refusal.TheVariants.{Names, Rows}
use Rattle.score.specs.Numbers.{CallResult}
use Rattle.text.specs.Text.{bytes, split, lines_of, column_of, is_digit, digit_of, each_digit, is_word, followed_by, word_of, each_word}
use Rattle.names.specs.Sources.{sources_of, each_readable, column_count, each_once, holds_names}
use Rattle.values.specs.Lines.{holds_words, row_of, rows_of, test_line}
use Rattle.reader.specs.Reading.{outcome, test_lines, test_text, text_rows, refuse, result_of, test_count, settle, read_text, score_table, read_of, edit_table, read_edits_of}

-- "42f00000 is note 120"; "3f800000 passes as timbre, 3f800001 gives 9"; "-0 passes, NaN doesn't"; "restart the whole number 0 or 1"
pub limits : (limit note 0x42f00000 ≡ true) × (limit note 0x42f00001 ≡ false) × (limit timbre 0x3f800000 ≡ true) × (limit timbre 0x3f800001 ≡ false)
    × (limit timbre 0x80000000 ≡ true) × (limit timbre 0x7fc00000 ≡ false) × (limit restart 1 ≡ true) × (limit restart 0x3f800000 ≡ false)
unfolding limit float_to decimal of_bits le
limits = (refl, refl, refl, refl, refl, refl, refl, refl)

-- lent words that no reading has touched
abbrev lent : List ℕ
lent = replicate 19 7

abbrev score : List ℕ
score =
    bytes "timbre note morph harmonics restart\n00000000 42700000 00000000 00000000 00000001\n3f000000 42700000 00000000 00000000 00000000\n3f000000 42700000 00000000 00000000 00000001\n"

abbrev edits : List ℕ
edits =
    bytes "row note timbre morph harmonics restart\n00000001 42700000 3f800000 00000000 00000000 00000000\n"
    ++ bytes "00000000 42700000 3f800000 00000000 00000000 00000001\n00000002 42700000 3f000000 00000000 00000000 00000001\n"

abbrev note60 : ℕ
note60 = 0x42700000

abbrev half : ℕ
half = 0x3f000000

abbrev one : ℕ
one = 0x3f800000

-- a refusal's number and place
abbrev refused : ℕ → ℕ → CallResult
refused number place = record { number = number; values = place ∷ [] }

-- "empty text gives 10; names alone give 6"; the program's score and edits
pub texts : (read_of [] lent ≡ refuse Names lent) × (result_of (read_of [] lent).answer ≡ refused 10 0)
    × (read_of (bytes "timbre note morph harmonics restart\n") lent ≡ refuse Rows lent)
    × (result_of (read_of (bytes "timbre note morph harmonics restart\n") lent).answer ≡ refused 6 0)
    × (read_of score lent ≡ outcome (Ok 3) (note60 ∷ 0 ∷ 0 ∷ 0 ∷ 1 ∷ note60 ∷ half ∷ 0 ∷ 0 ∷ 0 ∷ note60 ∷ half ∷ 0 ∷ 0 ∷ 1 ∷ 7 ∷ 7 ∷ 7 ∷ 7 ∷ []))
    × (read_edits_of edits lent ≡ outcome (Ok 3) (1 ∷ note60 ∷ one ∷ 0 ∷ 0 ∷ 0 ∷ 0 ∷ note60 ∷ one ∷ 0 ∷ 0 ∷ 1 ∷ 2 ∷ note60 ∷ half ∷ 0 ∷ 0 ∷ 1 ∷ 7 ∷ []))
unfolding read_of result_of read_edits_of read_text score_table edit_table settle test_text text_rows test_lines test_line test_count split lines_of same column_of sources_of each_readable column_count each_once holds_names
    is_digit digit_of each_digit is_word followed_by word_of each_word holds_words row_of rows_of row_within limit float_to decimal of_bits le
texts = (refl, refl, refl, refl, refl, refl)
