-- `within_limits_removed` tests the rows before row p and those behind it.
use Rattle.std.proofs.Common.{sym, ◌∙◌}
use Rattle.std.proofs.lemmas.Result.{err_from_is_err_and}
use Rattle.score.proofs.FirstBad.{limit_removed, lent_rest, refused_first, accepted_first}
use Rattle.score.proofs.limits.within_limits_removed.Goals as goal

pub returns-in_err-limits_from : goal.returns-in_err-limits_from
returns-in_err-limits_from c =
    let p = err_from_is_err_and c.from_residual.result c.from_residual.ensures.1 in
    let is = limit_removed c.args.rows.now c.args.count c.args.p c.requires.0 c.requires.1 in
    rw (p.1, p.2) (sym (is ∙ refused_first _ _ _ (sym c.limits_from.ensures ∙ c.in_err-limits_from.was)))

pub returns : goal.returns
returns c =
    let is = limit_removed c.args.rows.now c.args.count c.args.p c.requires.0 c.requires.1 in
    let before = accepted_first _ _ _ (sym c.limits_from.ensures ∙ c.in_ok-limits_from.was) in
    let behind = rw (lent_rest c.args.rows.now _) at c.limits_from-2.ensures in
    sym (is ∙ before ∙ sym behind)
