-- A text as the definitions write it, and what they refuse: each fact is a computation.
use Rattle.std.proofs.Common.{◌≡◌, refl, List, [], ◌∷◌, ◌++◌, ℕ, replicate, Ok, Err}
use Rattle.std.specs.Float.Ieee.{of_bits, le}
use Rattle.words.specs.Binary32.{decimal}
use Rattle.score.specs.declared.refusal.Refusal.TheVariants.{Rows, Limit, Paper}
use Rattle.score.specs.Numbers.{CallResult}
use Rattle.score.specs.Limits.{float_to, limit, row_within, first_bad, bad_refusal, limit_refusal}
use Rattle.text.specs.Text.{bytes, joined, text_of, lower_digit, lower_digits, field_of}
use Rattle.reader.specs.Reading.{score_table}
use Rattle.writer.specs.Writing.{names, row_lines, score_text, write_refusal, outcome, result_of, write_of}

-- a row of every digit, with -0 in it; a second one whose restart is outside its limit
abbrev rows : List ℕ
rows = 0x42689abc ∷ 0x3def0123 ∷ 0x80000000 ∷ 0x3f456789 ∷ 1 ∷ 0 ∷ 0 ∷ 0 ∷ 0 ∷ 2 ∷ []

abbrev text : List ℕ
text = bytes "note timbre morph harmonics restart\n42689abc 3def0123 80000000 3f456789 00000001\n"

-- a refusal's number and place
abbrev refused : ℕ → ℕ → CallResult
refused number place = record { number = number; values = place ∷ [] }

-- exact, longer, one short; a count of 0, of too many rows; 9 before 14
pub texts : (write_of 1 rows (replicate 81 46) ≡ outcome (Ok 81) text)
    × (write_of 1 rows (replicate 83 46) ≡ outcome (Ok 81) (text ++ 46 ∷ 46 ∷ []))
    × (write_of 1 rows (replicate 80 46) ≡ outcome (Err Paper) (replicate 80 46))
    × (write_of 0 rows (replicate 81 46) ≡ outcome (Err Rows) (replicate 81 46))
    × (write_of 3 rows (replicate 81 46) ≡ outcome (Err Rows) (replicate 81 46))
    × (write_of 2 rows [] ≡ outcome (Err (Limit 1)) [])
    × (result_of (write_of 1 rows (replicate 80 46)).answer ≡ refused 14 0) × (result_of (write_of 0 rows (replicate 81 46)).answer ≡ refused 6 0)
    × (result_of (write_of 3 rows (replicate 81 46)).answer ≡ refused 6 0) × (result_of (write_of 2 rows []).answer ≡ refused 9 1)
unfolding write_of result_of write_refusal score_text row_lines names score_table joined text_of lower_digit lower_digits field_of limit_refusal bad_refusal first_bad row_within limit float_to decimal of_bits le
texts = (refl, refl, refl, refl, refl, refl, refl, refl, refl, refl)
