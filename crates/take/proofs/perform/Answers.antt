-- `perform` is `call_of`: refused, or done.
use Rattle.std.proofs.Common.{sym, ◌∙◌}
use Rattle.std.proofs.lemmas.Result.{err_from_is_err_and}
use Rattle.take.proofs.Calls.{answers_refused, answers_done}
use Rattle.take.proofs.perform.Goals as goal

pub returns-in_err-check-clause-call : goal.returns-in_err-check-clause-call
returns-in_err-check-clause-call c =
    let p = err_from_is_err_and c.from_residual.result c.from_residual.ensures.1 in
    rw (p.1, p.2) (answers_refused _ _ _ _ c.args.call _ (sym c.check.ensures ∙ c.in_err-check.was))

pub carry_out-requires : goal.carry_out-requires
carry_out-requires c = sym c.check.ensures ∙ c.in_ok-check.was

pub returns-clause-call : goal.returns-clause-call
returns-clause-call c = answers_done _ _ _ _ c.args.call (sym c.check.ensures ∙ c.in_ok-check.was) _ _ _ c.carry_out.ensures.done
