-- Document 01, "The program `retake`": what it makes of the two texts and the bank, and the first refusal of the three.
use Rattle.std.specs.Prelude.{ℕ, ◌*◌, ◌≤◌, cond, List, eqb, ltb, length, replicate, Result, Ok, Err}
use Rattle.std.specs.Result.{result_and}
use Rattle.score.specs.Rows.{row_words}
use Rattle.score.specs.Numbers.{Tested, accepted}
use Rattle.score.specs.declared.refusal.Refusal.{Refusal}
use Rattle.score.specs.declared.refusal.Refusal.TheVariants.{Bank, Space}
use Rattle.reader.specs.Reading.{Answer, Outcome, allowed, read_of, read_edits_of, edit_words}
use Rattle.inputs.specs.declared.Inputs.{Inputs}

-- "a text above 8,192 bytes"
abbrev pub most_text : ℕ
most_text = 8192

-- "at most 128 rows and 32 edits"
abbrev pub most_rows : ℕ
most_rows = 128

abbrev pub most_edits : ℕ
most_edits = 32

-- "A bank file of another length than 50,688 bytes"
abbrev pub bytes_of_bank : ℕ
bytes_of_bank = 50688

-- So many words of 0.
unfoldable pub zeros : ℕ → List ℕ
zeros n = replicate n 0

-- A text above 8,192 bytes "gives 12 before anything else in it".
unfoldable pub test_length : List ℕ → Tested
test_length text = cond (ltb most_text (length text)) (Err Space) accepted

-- A text read by a reader.
unfoldable pub text_of : (List ℕ → List ℕ → Outcome) → List ℕ → List ℕ → Outcome
text_of read text words = allowed (test_length text) (read text words) words

-- The score's text and the edits' text: "more than 128 rows or 32 edits give 12 last", since there are words for so many.
abbrev pub score_text : List ℕ → Outcome
score_text text = text_of read_of text (zeros (most_rows * row_words))

abbrev pub edits_text : List ℕ → Outcome
edits_text text = text_of read_edits_of text (zeros (most_edits * edit_words))

-- Rows and edits that were read: how many, and the words that they were read into.
abbrev pub read_into : ℕ → List ℕ → ℕ → List ℕ → Inputs
read_into n rows m words = record { count = n; rows = rows; edit_count = m; edits = words }

-- The bank is told by its length.
unfoldable pub test_bank : ℕ → Tested
test_bank bank = cond (eqb bank bytes_of_bank) accepted (Err Bank)

-- "The score is read first, then the edits, then the bank": the rows and the edits, or the first refusal.
unfoldable pub inputs_by : Answer → List ℕ → Answer → List ℕ → Tested → Result Inputs Refusal
inputs_by (Err r) rows edits words bank = Err r
inputs_by (Ok n) rows (Err r) words bank = Err r
inputs_by (Ok n) rows (Ok m) words bank = result_and bank (Ok (read_into n rows m words))

-- So the program takes the two texts and the bank, by the bank's length.
abbrev pub inputs_of : List ℕ → List ℕ → ℕ → Result Inputs Refusal
inputs_of score edits bank =
    let s = score_text score in
    let e = edits_text edits in
    inputs_by s.answer s.rows e.answer e.rows (test_bank bank)

-- There are words for the most rows and edits, and no more are read.
pub record Within (given : Inputs) : Type 0 where
  pub rows_most : given.count ≤ most_rows
  pub edits_most : given.edit_count ≤ most_edits
