-- Document 02, "A tidy writer": the text of a score, the refusals in their order, and what a call leaves.
use Rattle.std.specs.Prelude.{ℕ, zero, suc, ◌+◌, ◌*◌, cond, List, [], ◌∷◌, ◌++◌, map, length, take, drop, ltb, Result, Ok, Err}
use Rattle.std.specs.Result.{result_and}
use Rattle.score.specs.declared.refusal.Refusal.{Refusal}
use Rattle.score.specs.declared.refusal.Refusal.TheVariants.{Rows, Paper}
use Rattle.score.specs.Numbers.{Tested, accepted, CallResult, done, refused}
use Rattle.score.specs.Rows.{row_words, most_rows, wrong_rows}
use Rattle.score.specs.Limits.{limit_refusal}
use Rattle.text.specs.Text.{text_of, field_of}
use Rattle.names.specs.Sources.{Entry}
use Rattle.reader.specs.Reading.{score_table}

-- ---- the text

-- "names in document 01's row order": those of the table that a score is read by
unfoldable pub names : List (List ℕ)
names = map (λ (entry : Entry). entry.spelling) score_table

-- "Write row words as text": a line for each of the first `count` rows, its words in their order.
unfoldable pub row_lines : ℕ → List ℕ → List (List (List ℕ))
row_lines zero rows = []
row_lines (suc count) rows = map field_of (take row_words rows) ∷ row_lines count (drop row_words rows)

-- The text of a score.
unfoldable pub score_text : ℕ → List ℕ → List ℕ
score_text count rows = text_of (names ∷ row_lines count rows)

-- The bytes of the line of names, of a row's line, and of the text of so many rows.
abbrev pub names_bytes : ℕ
names_bytes = 36

abbrev pub row_bytes : ℕ
row_bytes = 45

abbrev pub text_bytes : ℕ → ℕ
text_bytes count = names_bytes + count * row_bytes

-- ---- what a call refuses

-- "The writer checks rows as rendering does, with 6 and then 9"; 14, "lent text shorter than the score needs, tested after 9"
unfoldable pub write_refusal : ℕ → List ℕ → List ℕ → Tested
write_refusal count rows lent =
    cond (wrong_rows 1 most_rows count (length rows)) (Err Rows)
    (result_and (limit_refusal count rows)
    (cond (ltb (length lent) (length (score_text count rows))) (Err Paper) accepted))

-- ---- what a call leaves

-- What writing answers: the number of bytes, or a refusal.
abbrev pub Answer : Type 0
Answer = Result ℕ Refusal

-- A call's answer, and the lent text as it leaves it.
pub record Outcome : Type 0 where
  pub answer : Answer
  pub text : List ℕ

abbrev pub outcome : Answer → List ℕ → Outcome
outcome answer text = record { answer = answer; text = text }

-- "Success carries the byte count."
unfoldable pub result_of : Answer → CallResult
result_of (Ok bytes) = done (bytes ∷ [])
result_of (Err r) = refused r

-- What a call comes to that a test allows.
abbrev pub allowed : Tested → Outcome → List ℕ → Outcome
allowed (Ok _) left lent = left
allowed (Err r) left lent = outcome (Err r) lent

-- Writing a score: "bytes past it stay", and a refused call changes no lent buffer.
unfoldable pub write_of : ℕ → List ℕ → List ℕ → Outcome
write_of count rows lent =
    let text = score_text count rows in
    allowed (write_refusal count rows lent) (outcome (Ok (length text)) (text ++ drop (length text) lent)) lent
