-- `render` is `call_of`, by its test and its run.
use Rattle.std.proofs.Common.{sym, ◌∙◌, le_refl}
use Rattle.std.proofs.lemmas.Result.{err_from_is_err_and}
use Rattle.refusals.specs.declared.Call.TheVariants.{Render}
use Rattle.refusals.proofs.Accepted.{accepted}
use Rattle.take.proofs.Calls.{answers_refused, answers_done, render_holding, render_does}
use Rattle.take.proofs.render.Goals as goal

pub returns-in_err-check-clause-call : goal.returns-in_err-check-clause-call
returns-in_err-check-clause-call c =
    let p = err_from_is_err_and c.from_residual.result c.from_residual.ensures.1 in
    rw (p.1, p.2) (answers_refused _ _ _ _ Render _ (sym c.check.ensures ∙ c.in_err-check.was))

pub run-requires : goal.run-requires
run-requires c =
    let a = accepted _ _ _ _ Render (sym c.check.ensures ∙ c.in_ok-check.was) in
    let h = render_holding _ _ _ _ a in
    record { lent = a.lent_right.tables; holding = h.1; from_lt_to = (h.0, le_refl _) }

pub returns-clause-call : goal.returns-clause-call
returns-clause-call c =
    answers_done _ _ _ _ Render (sym c.check.ensures ∙ c.in_ok-check.was) _ _ _ (render_does _ _ _ _ _ _ c.run.ensures.done)
