-- Document 01, "The program `retake`": the lines that it prints.
use Rattle.std.specs.Prelude.{ℕ, ◌+◌, ◌*◌, List, [], ◌∷◌, ◌++◌, decimal, Result, Ok, Err}
use Rattle.formats.specs.Formats.{most_digits}
use Rattle.text.specs.Text.{bytes, lf, space}
use Rattle.rows.specs.declared.Report.{Report}
use Rattle.score.specs.declared.refusal.Refusal.{Refusal}
use Rattle.score.specs.Numbers.{number_of, place_of}

-- A number in decimal, and the byte after it: "one space between", "LF ends every line".
abbrev pub number : ℕ → ℕ → List ℕ
number n end = decimal n ++ end ∷ []

-- "the line `row rendered held`"
abbrev pub heading : List ℕ
heading = bytes "row rendered held" ++ lf ∷ []

-- "for each edit a decimal line: row, rows rendered, held, one space between"
unfoldable pub counts_line : ℕ → ℕ → ℕ → List ℕ
counts_line row rendered held = number row space ++ (number rendered space ++ number held lf)

-- "A refusal prints one line: `refused`, number and place, decimal, one space between."
unfoldable pub refused_line : ℕ → ℕ → List ℕ
refused_line n place = bytes "refused " ++ (number n space ++ number place lf)

-- The line of an edit: "A refused edit prints its line in its turn".
unfoldable pub edit_line : ℕ → Result Report Refusal → List ℕ
edit_line row (Ok report) = counts_line row report.rows report.holds.held
edit_line row (Err r) = refused_line (number_of r) (place_of r)

-- The most bytes of a number with the byte after it, and of a line.
abbrev pub most_number : ℕ
most_number = most_digits + 1

abbrev pub most_line : ℕ
most_line = 3 * most_number
