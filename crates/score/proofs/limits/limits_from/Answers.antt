-- `limits_from` tests row after row.
use Rattle.std.proofs.Common.{◌≡◌, ◌-◌, sym, ◌∙◌, arith}
use Rattle.std.proofs.lemmas.Result.{err_from_is_err_and}
use Rattle.score.specs.Inner.{refused_from}
use Rattle.score.proofs.FirstBad.{next_row, refused_first, accepted_first}
use Rattle.score.proofs.limits.limits_from.Goals as goal

pub returns-in_err-row_limits : goal.returns-in_err-row_limits
returns-in_err-row_limits c =
    let p = err_from_is_err_and c.from_residual.result c.from_residual.ensures.1 in
    let e = rw c.row_at.ensures at (sym c.row_limits.ensures ∙ c.in_err-row_limits.was) in
    rw (p.1, p.2)
    (sym (c.loop-k.invariant ∙ next_row c.args.first c.args.count c.loop-k.k c.args.rows.now c.loop-k-test.true ∙ refused_first _ _ _ e))

pub loop-k-preserved : goal.loop-k-preserved
loop-k-preserved c =
    let e = rw c.row_at.ensures at (sym c.row_limits.ensures ∙ c.in_ok-row_limits.was) in
    c.loop-k.invariant ∙ next_row c.args.first c.args.count c.loop-k.k c.args.rows.now c.loop-k-test.true ∙ accepted_first _ _ _ e

pub returns : goal.returns
unfolding refused_from
returns c =
    let z : c.args.count - c.loop-k.k ≡ 0 = omega arith in
    sym (rw z at c.loop-k.invariant)
