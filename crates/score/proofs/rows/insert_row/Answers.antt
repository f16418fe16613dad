-- `insert_row` moves the rows up and puts the new one in.
use Rattle.std.proofs.Common.{ap, ◌∙◌, List, ℕ}
use Rattle.score.specs.Rows.{put_row}
use Rattle.score.proofs.rows.insert_row.Goals as goal

pub returns : goal.returns
returns c =
    c.put_row.ensures ∙ ap (λ (l : List ℕ). put_row l c.args.p c.args.row) c.shift_up.ensures
