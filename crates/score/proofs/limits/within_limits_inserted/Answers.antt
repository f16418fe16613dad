-- `within_limits_inserted` tests the rows before row p, the new row, and the rows from row p on.
use Rattle.std.proofs.Common.{rules, sym, ◌∙◌}
use Rattle.std.proofs.lemmas.Result.{err_from_is_err_and}
use Rattle.score.proofs.FirstBad.{limit_inserted, lent_rest, refused_first, accepted_first}
use Rattle.score.proofs.limits.within_limits_inserted.Goals as goal

pub returns-in_err-limits_from : goal.returns-in_err-limits_from
returns-in_err-limits_from c =
    let p = err_from_is_err_and c.from_residual.result c.from_residual.ensures.1 in
    let is = limit_inserted c.args.rows.now c.args.count c.args.p c.requires.0 c.requires.1 c.args.row (search rules) in
    rw (p.1, p.2) (sym (is ∙ refused_first _ _ _ (sym c.limits_from.ensures ∙ c.in_err-limits_from.was)))

pub returns-in_err-row_limits : goal.returns-in_err-row_limits
returns-in_err-row_limits c =
    let p = err_from_is_err_and c.from_residual-in_err-row_limits.result c.from_residual-in_err-row_limits.ensures.1 in
    let is = limit_inserted c.args.rows.now c.args.count c.args.p c.requires.0 c.requires.1 c.args.row (search rules) in
    let before = accepted_first _ _ _ (sym c.limits_from.ensures ∙ c.in_ok-limits_from.was) in
    rw (p.1, p.2) (sym (is ∙ before ∙ refused_first _ _ _ (sym c.row_limits.ensures ∙ c.in_err-row_limits.was)))

pub returns : goal.returns
returns c =
    let is = limit_inserted c.args.rows.now c.args.count c.args.p c.requires.0 c.requires.1 c.args.row (search rules) in
    let before = accepted_first _ _ _ (sym c.limits_from.ensures ∙ c.in_ok-limits_from.was) in
    let here = accepted_first _ _ _ (sym c.row_limits.ensures ∙ c.in_ok-row_limits.was) in
    let behind = rw (lent_rest c.args.rows.now _) at c.limits_from-2.ensures in
    sym (is ∙ before ∙ here ∙ sym behind)
