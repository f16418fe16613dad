-- `line_within` tests the row that `write_row` left.
use Rattle.std.proofs.Common.{ap, ◌∙◌}
use Rattle.score.specs.Limits.{row_within}
use Rattle.values.proofs.line_within.Goals as goal

pub returns : goal.returns
returns c = c.row_within.ensures ∙ ap row_within c.write_row.ensures
