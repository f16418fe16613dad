-- The lines that are left decide.
use Rattle.std.proofs.Common.{length}
use Rattle.reader.proofs.Testing.{Left}
use Rattle.reader.proofs.test_lines.Given as goal

abbrev pub invariant-loop-rest : goal.invariant-loop-rest
invariant-loop-rest l = Left l.layout.names l.layout.sources.now l.layout.score l.text l.rest l.at

abbrev pub decreases-loop-rest : goal.decreases-loop-rest
decreases-loop-rest l = length l.rest
