-- The lines of the rows stand one behind the other (Filled).
use Rattle.lists.proofs.Filling.{Filled}
use Rattle.writer.specs.Writing.{row_bytes}
use Rattle.writer.proofs.Lines.{rows_from}
use Rattle.writer.proofs.put_rows.Given as goal

abbrev pub invariant-loop-k : goal.invariant-loop-k
invariant-loop-k l = Filled row_bytes l.count (rows_from l.count l.rows) l.text l.k
