-- Document 01, "Score text": lines of values, and rows by them; "Calls and their numbers": what refuses a line.
use Rattle.std.specs.Prelude.{ℕ, Bool, false, not, ◌&&◌, ◌||◌, cond, List, [], ◌∷◌, ◌++◌, map, length, get_or, eqb, Err}
use Rattle.score.specs.declared.refusal.Refusal.TheVariants.{Limit, Value}
use Rattle.score.specs.Numbers.{Tested, accepted}
use Rattle.score.specs.Limits.{row_within}
use Rattle.text.specs.Text.{Line, ended, unended, contents, fields_of, word_of, each_word}
use Rattle.names.specs.declared.Source.{Source}
use Rattle.names.specs.declared.Source.TheVariants.{Column, Word, Missing}

-- "lines of values in that order": a word for each of so many names
unfoldable pub holds_words : ℕ → Line → Bool
holds_words count (ended bs) = eqb (length (fields_of bs)) count && each_word (fields_of bs)
holds_words count (unended bs) = false

-- The word of a source on a line. A source that is missing has none, and a text with one is refused.
abbrev pub word_from : Line → Source → ℕ
word_from line (Column column) = word_of (get_or (fields_of (contents line)) column [])
word_from line (Word word) = word
word_from line Missing = 0

-- The row of a line: the words of the sources, in their order.
unfoldable pub row_of : List Source → Line → List ℕ
row_of sources line = map (word_from line) sources

-- The rows of some lines, one after the other.
unfoldable pub rows_of : List Source → List Line → List ℕ
rows_of sources [] = []
rows_of sources (line ∷ lines) = row_of sources line ++ rows_of sources lines

-- "11 before 9": the test of line `at` of the lines of values, where the first line has n names. 9 is tested in a score alone.
unfoldable pub test_line : ℕ → List Source → Bool → ℕ → Line → Tested
test_line n sources score at line =
    cond (holds_words n line) (cond (not score || row_within (row_of sources line)) accepted (Err (Limit at))) (Err (Value at))
