-- The words of a row stand one behind the other (Filled).
use Rattle.score.specs.Rows.{row_words}
use Rattle.values.specs.Inner.{field_bytes}
use Rattle.lists.proofs.Filling.{Filled}
use Rattle.writer.proofs.Lines.{line_from}
use Rattle.writer.proofs.put_line.Given as goal

abbrev pub invariant-loop-k : goal.invariant-loop-k
invariant-loop-k l = Filled field_bytes row_words (line_from l.row) l.text l.k
