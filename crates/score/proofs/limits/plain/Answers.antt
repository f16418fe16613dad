-- `score::limits::plain` meets its contract.
use Rattle.std.proofs.Common.{eq-eqb, ne_eqb}
use Rattle.score.proofs.limits.plain.Goals as goal

pub returns-then-w-eq2147483648 : goal.returns-then-w-eq2147483648
returns-then-w-eq2147483648 c = rw (eq-eqb _ _ c.if-w-eq2147483648.true)

pub returns-else-w-eq2147483648 : goal.returns-else-w-eq2147483648
returns-else-w-eq2147483648 c = rw (ne_eqb _ _ c.if-w-eq2147483648.false)
