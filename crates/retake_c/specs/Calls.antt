-- What the C functions return and leave: the number, what is written to `first`, `second` and `counts`, and the lent words and bytes, by the
-- definitions of reading, of writing and of the calls over a score and a take.
use Rattle.std.specs.Prelude.{ℕ, List, [], ◌∷◌, Result, Ok, Err}
use Rattle.score.specs.declared.refusal.Refusal.{Refusal}
use Rattle.score.specs.Numbers.{CallResult}
use Rattle.reader.specs.Reading as reading
use Rattle.writer.specs.Writing as writing
use Rattle.rows.specs.declared.Settings.{Settings}
use Rattle.rows.specs.Rows.{Take}
use Rattle.utils.specs.Holds.{none}
use Rattle.rows.specs.declared.Report.{Report}
use Rattle.take.specs.Take.{counts_of, result_of, Outcome}

-- The first of a call's values, 0 where there is none.
abbrev pub first_of : List ℕ → ℕ
first_of [] = 0
first_of (value ∷ values) = value

-- The second of a call's values, 0 where there is none.
abbrev pub second_of : List ℕ → ℕ
second_of [] = 0
second_of (value ∷ values) = first_of values

-- A call's result as a C function gives it: the number is returned, `first` and `second` are written.
pub record Given : Type 0 where
  pub number : ℕ
  pub first : ℕ
  pub second : ℕ

abbrev pub given : ℕ → ℕ → ℕ → Given
given number first second = record { number = number; first = first; second = second }

abbrev pub given_of : CallResult → Given
given_of r = given r.number (first_of r.values) (second_of r.values)

-- The three numbers that stay the same from call to call.
abbrev pub settings : ℕ → ℕ → ℕ → Settings
settings instrument rate frames = record { instrument = instrument; rate = rate; frames = frames }

-- After reading or writing a text: the result, and the row words or the bytes that were lent for it.
pub record Filled : Type 0 where
  pub result : Given
  pub lent : List ℕ

abbrev pub filled : Given → List ℕ → Filled
filled result lent = record { result = result; lent = lent }

abbrev pub of_reading : reading.Outcome → Filled
of_reading o = filled (given_of (reading.result_of o.answer)) o.rows

abbrev pub of_writing : writing.Outcome → Filled
of_writing o = filled (given_of (writing.result_of o.answer)) o.text

-- What is written to `counts`: the five counts of an accepted call, and zeros on a refusal.
abbrev pub counts_in : Result Report Refusal → List ℕ
counts_in (Ok report) = counts_of report.holds
counts_in (Err r) = counts_of none

-- After rendering, an edit, an insertion or a removal: the result, the five counts, the lent row words, and the lent take.
pub record Called : Type 0 where
  pub result : Given
  pub counts : List ℕ
  pub rows : List ℕ
  pub left : Take

abbrev pub called : Given → List ℕ → List ℕ → Take → Called
called result counts rows t = record { result = result; counts = counts; rows = rows; left = t }

abbrev pub of_call : Outcome → Called
of_call o = called (given_of (result_of o.answer)) (counts_in o.answer) o.rows o.left
