-- The words so far.
use Rattle.values.specs.Lines.{word_from}
use Rattle.values.specs.Inner.{first_line}
use Rattle.names.proofs.Mapped.{Mapped}
use Rattle.values.proofs.write_row.Given as goal

abbrev pub invariant-loop-k : goal.invariant-loop-k
invariant-loop-k l = Mapped (word_from (first_line l.text)) l.sources l.row l.k
