-- `within_limits` tests the rows from row 0 on.
use Rattle.std.proofs.Common.{◌∙◌}
use Rattle.score.proofs.FirstBad.{from_0}
use Rattle.score.proofs.limits.within_limits.Goals as goal

pub returns : goal.returns
returns c = c.limits_from.ensures ∙ from_0 _ _
