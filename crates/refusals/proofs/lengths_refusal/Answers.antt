-- A count that 6 lets through is small.
use Rattle.std.proofs.Common.{length, sym, ◌∙◌, arith}
use Rattle.score.proofs.RowsRight.{rows_right}
use Rattle.refusals.proofs.lengths_refusal.Goals as goal

pub is_short-requires : goal.is_short-requires
is_short-requires c =
    let r = rows_right c.least_count.result c.largest_count.result c.args.count (length c.args.rows.now) (sym c.wrong_rows.ensures ∙ c.if-wrong_rows.false) in
    (omega (arith, r.count_most, c.largest_count.ensures.most), c.requires)
