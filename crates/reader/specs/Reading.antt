-- Document 01, "Calls and their numbers" for the reader, and "The program `retake`" for the edits text: the refusals in their order, and what a call leaves.
use Rattle.std.specs.Prelude.{ℕ, suc, ◌*◌, ◌≤◌, ◌<◌, ◌≡◌, Bool, true, false, ◌&&◌, ◌||◌, cond, List, [], ◌∷◌, ◌++◌, map, length, drop, ltb, eqb, Result, Ok, Err}
use Rattle.std.specs.Result.{result_and}
use Rattle.score.specs.declared.refusal.Refusal.{Refusal}
use Rattle.score.specs.declared.refusal.Refusal.TheVariants.{Rows, Names, Space}
use Rattle.score.specs.Numbers.{Tested, accepted, CallResult, done, refused}
use Rattle.score.specs.Rows.{row_words, most_rows, Name, note, timbre, morph, harmonics, restart, row_names}
use Rattle.score.specs.Limits.{limit_refusal}
use Rattle.names.specs.declared.Source.{Source}
use Rattle.names.specs.declared.Source.TheVariants.{Missing}
use Rattle.text.specs.Text.{bytes, Line, lines_of, first_of, rest_of}
use Rattle.names.specs.Sources.{Entry, holds_names, names_on, sources_by}
use Rattle.values.specs.Lines.{rows_of, test_line}

-- What reading answers: the number of rows, or a refusal.
abbrev pub Answer : Type 0
Answer = Result ℕ Refusal

-- "Success carries the row count (reader)."
unfoldable pub result_of : Answer → CallResult
result_of (Ok count) = done (count ∷ [])
result_of (Err r) = refused r

-- ---- a text of any table of names

-- "line after line": lines of values, the first of them number `at`. Success carries how many there are.
unfoldable pub test_lines : ℕ → List Source → Bool → ℕ → List Line → Answer
test_lines n sources score at [] = Ok at
test_lines n sources score at (line ∷ lines) = result_and (test_line n sources score at line) (test_lines n sources score (suc at) lines)

-- "The reader tests 10; then line after line": the line of names, and then a word for each of its names on every line.
unfoldable pub test_text : List Entry → Bool → List Line → Answer
test_text table score lines =
    cond (holds_names table (first_of lines)) (test_lines (names_on lines) (sources_by table lines) score 0 (rest_of lines)) (Err Names)

-- The rows of a text, each in the order of the table.
unfoldable pub text_rows : List Entry → List Line → List ℕ
text_rows table lines = rows_of (sources_by table lines) (rest_of lines)

-- ---- what a call leaves

-- A call's answer, and the lent row words as it leaves them.
pub record Outcome : Type 0 where
  pub answer : Answer
  pub rows : List ℕ

abbrev pub outcome : Answer → List ℕ → Outcome
outcome answer rows = record { answer = answer; rows = rows }

-- "a refused call changes no lent buffer"
abbrev pub refuse : Refusal → List ℕ → Outcome
refuse r lent = outcome (Err r) lent

-- What a call comes to that a test allows.
abbrev pub allowed : Tested → Outcome → List ℕ → Outcome
allowed (Ok _) left lent = left
allowed (Err r) left lent = refuse r lent

-- "then 6; then 12": the test of so many rows of so many words, where `lent` words are lent. 6 is tested in a score alone.
unfoldable pub test_count : Bool → ℕ → ℕ → ℕ → Tested
test_count score words count lent =
    cond (score && (eqb count 0 || ltb most_rows count)) (Err Rows) (cond (ltb lent (words * count)) (Err Space) accepted)

-- What is left once the lines are tested: "Lent row words past the score keep what they had."
unfoldable pub settle : Bool → ℕ → Answer → List ℕ → List ℕ → Outcome
settle score words (Err r) rows lent = refuse r lent
settle score words (Ok count) rows lent =
    allowed (test_count score words count (length lent)) (outcome (Ok count) (rows ++ drop (words * count) lent)) lent

-- "The reader tests 10; then line after line 11 before 9; then 6; then 12": reading a text, as a score or not.
unfoldable pub read_text : Bool → List Entry → List ℕ → List ℕ → Outcome
read_text score table text lent = settle score (length table) (test_text table score (lines_of text)) (text_rows table (lines_of text)) lent

-- ---- a score

-- A name as the text has it.
abbrev pub spelled : Name → List ℕ
spelled note = bytes "note"
spelled timbre = bytes "timbre"
spelled morph = bytes "morph"
spelled harmonics = bytes "harmonics"
spelled restart = bytes "restart"

-- What a name stands for where the first line lacks it. "each once": none may be absent.
abbrev pub absence : Name → Source
absence note = Missing
absence timbre = Missing
absence morph = Missing
absence harmonics = Missing
absence restart = Missing

-- "Names: the five, lower case"
unfoldable pub score_table : List Entry
score_table = map (λ name. record { spelling = spelled name; absent = absence name }) row_names

-- Reading a score.
unfoldable pub read_of : List ℕ → List ℕ → Outcome
read_of text lent = read_text true score_table text lent

-- What an accepted score brings to rendering, in the lent words as the call leaves them: its first `count` rows pass 6 and 9.
pub record Accepted (count : ℕ) (lent left : List ℕ) : Type 0 where
  pub some : 0 < count
  pub few : count ≤ most_rows
  pub space : row_words * count ≤ length lent
  pub long : length left ≡ length lent
  pub passes : limit_refusal count left ≡ accepted

-- ---- edits

-- "a sixth name, `row`"
unfoldable pub edit_table : List Entry
edit_table = record { spelling = bytes "row"; absent = Missing } ∷ score_table

-- An edit's words: its row, then a row's.
abbrev pub edit_words : ℕ
edit_words = suc row_words

-- Reading edits: "tested by 10 and 11 alone", and "limits wait for the edit itself"; more edits than are lent words for "give 12 last".
unfoldable pub read_edits_of : List ℕ → List ℕ → Outcome
read_edits_of text lent = read_text false edit_table text lent
