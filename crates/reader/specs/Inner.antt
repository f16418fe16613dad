-- What the reader's inner functions promise each other.
use Rattle.std.specs.Prelude.{ℕ, Bool, List, length}
use Rattle.text.specs.Text.{Line}
use Rattle.names.specs.declared.Source.{Source}
use Rattle.values.specs.Lines.{rows_of}
use Rattle.reader.specs.Reading.{Outcome, test_lines, settle}

-- What lines of values come to, by the sources of a row's words.
abbrev pub read_lines : Bool → ℕ → List Source → List Line → List ℕ → Outcome
read_lines score names sources lines lent =
    settle score (length sources) (test_lines names sources score 0 lines) (rows_of sources lines) lent
