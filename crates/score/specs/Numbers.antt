-- Document 01, "Calls and their numbers", and document 02: the table's numbers, what a test answers, and a call's result.
use Rattle.std.specs.Prelude.{ℕ, List, [], ◌∷◌, ◌++◌, Result, Ok}
use Rattle.std.specs.Fmt.{decimal}
use Rattle.score.specs.declared.refusal.Refusal.{Refusal}
use Rattle.score.specs.declared.refusal.Refusal.TheVariants.{Instrument, Rate, Block, Bank, Map, Rows, Take, Position, Limit, Names, Value, Space, Full, Paper}

-- ---- the table

-- "instrument: not 0 wavetable, 1 terrain, 2 terrain with map"; "Number 1 now means above 3"
abbrev pub instrument_number : ℕ
instrument_number = 1

-- "rate: whole number of Hz outside 32,000 to 192,000"
abbrev pub rate_number : ℕ
rate_number = 2

-- "block: frames 0 or above 128"
abbrev pub block_number : ℕ
block_number = 3

-- "bank: length not 25,344"
abbrev pub bank_number : ℕ
bank_number = 4

-- "map: length not 4,096 for 2, not 0 for 0 and 1", nor for 3
abbrev pub map_number : ℕ
map_number = 5

-- "6 a count of 0 or above 4,096 or, outside the reader, fewer row words than 5 times it"
abbrev pub rows_number : ℕ
rows_number = 6

-- "Number 7 now means too short": out or aux for rows times frames, or kept for 13 times rows
abbrev pub take_number : ℕ
take_number = 7

-- "position: edited row not below the row count"; "An insertion's position may equal the count; a higher one gives 8."
-- A removed row as an edited one.
abbrev pub position_number : ℕ
position_number = 8

-- "limit: a word outside its name's limit"
abbrev pub limit_number : ℕ
limit_number = 9

-- "names: first line not as above, or no LF ends it"
abbrev pub names_number : ℕ
names_number = 10

-- "value: a line not five words as above"
abbrev pub value_number : ℕ
value_number = 11

-- "space: lent row words fewer than 5 times rows"
abbrev pub space_number : ℕ
space_number = 12

-- "13 full: an insertion with no spare place in some buffer"
abbrev pub full_number : ℕ
full_number = 13

-- "14 paper: lent text shorter than the score needs"
abbrev pub paper_number : ℕ
paper_number = 14

-- ---- a refusal

-- A refusal's number in the table.
abbrev pub number_of : Refusal → ℕ
number_of Instrument = instrument_number
number_of Rate = rate_number
number_of Block = block_number
number_of Bank = bank_number
number_of Map = map_number
number_of Rows = rows_number
number_of Take = take_number
number_of (Position place) = position_number
number_of (Limit place) = limit_number
number_of Names = names_number
number_of (Value place) = value_number
number_of Space = space_number
number_of Full = full_number
number_of Paper = paper_number

-- Its place: 8, 9 and 11 carry one, and the others have 0.
abbrev pub place_of : Refusal → ℕ
place_of Instrument = 0
place_of Rate = 0
place_of Block = 0
place_of Bank = 0
place_of Map = 0
place_of Rows = 0
place_of Take = 0
place_of (Position place) = place
place_of (Limit place) = place
place_of Names = 0
place_of (Value place) = place
place_of Space = 0
place_of Full = 0
place_of Paper = 0

-- Its text: the number and the place, one space (32) between.
abbrev pub printed : Refusal → List ℕ
printed r = decimal (number_of r) ++ (32 ∷ decimal (place_of r))

-- What a test answers: a refusal, or that nothing is refused.
abbrev pub Tested : Type 0
Tested = Result (Unit {0}) Refusal

-- Nothing is refused.
abbrev pub accepted : Tested
accepted = Ok tt

-- ---- the result of a call

-- A call's number, and what it carries.
pub record CallResult : Type 0 where
  pub number : ℕ
  pub values : List ℕ

-- Success has number 0.
abbrev pub done : List ℕ → CallResult
done values = record { number = 0; values = values }

-- "Result of a refusal: number and place"
abbrev pub refused : Refusal → CallResult
refused r = record { number = number_of r; values = place_of r ∷ [] }
