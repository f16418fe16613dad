-- The rows stored and those of the lines that are left are all.
use Rattle.reader.proofs.Storing.{Stored}
use Rattle.reader.proofs.write_rows.Given as goal

abbrev pub invariant-loop-k : goal.invariant-loop-k
invariant-loop-k l = Stored l.layout.names l.width l.layout.sources.now l.text l.rest l.lines l.initial.rows l.rows l.k
