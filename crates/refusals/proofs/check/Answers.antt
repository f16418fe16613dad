-- `check` is `refusal_of`, by the tests that led to each answer.
use Rattle.std.proofs.Common.{sym, ◌∙◌}
use Rattle.std.proofs.lemmas.Result.{err_from_is_err_and}
use Rattle.refusals.proofs.Accepted.{right_position, settings_right, lengths_right, room_after}
use Rattle.refusals.proofs.Testing.{by_settings, by_lengths, by_position, by_full, by_limits}
use Rattle.refusals.proofs.check.Goals as goal

pub returns-in_err-settings_refusal : goal.returns-in_err-settings_refusal
returns-in_err-settings_refusal c =
    let p = err_from_is_err_and c.from_residual.result c.from_residual.ensures.1 in
    rw (p.1, p.2) (by_settings _ _ _ _ _ _ (sym c.settings_refusal.ensures ∙ c.in_err-settings_refusal.was))

pub lengths_refusal-requires : goal.lengths_refusal-requires
lengths_refusal-requires c = (settings_right _ (sym c.settings_refusal.ensures ∙ c.in_ok-settings_refusal.was)).frames_most

pub returns-in_err-lengths_refusal : goal.returns-in_err-lengths_refusal
returns-in_err-lengths_refusal c =
    let p = err_from_is_err_and c.from_residual-in_err-lengths_refusal.result c.from_residual-in_err-lengths_refusal.ensures.1 in
    rw (p.1, p.2)
    (by_lengths _ _ _ _ _ (sym c.settings_refusal.ensures ∙ c.in_ok-settings_refusal.was) _ (sym c.lengths_refusal.ensures ∙ c.in_err-lengths_refusal.was))

pub returns-in_err-position_refusal : goal.returns-in_err-position_refusal
returns-in_err-position_refusal c =
    let p = err_from_is_err_and c.from_residual-in_err-position_refusal.result c.from_residual-in_err-position_refusal.ensures.1 in
    rw (p.1, p.2)
    (by_position _ _ _ _ _ (sym c.settings_refusal.ensures ∙ c.in_ok-settings_refusal.was) (sym c.lengths_refusal.ensures ∙ c.in_ok-lengths_refusal.was) _
    (sym c.position_refusal.ensures ∙ c.in_err-position_refusal.was))

pub full-requires : goal.full-requires
full-requires c = (
  (settings_right _ (sym c.settings_refusal.ensures ∙ c.in_ok-settings_refusal.was)).frames_most,
  (lengths_right _ _ _ _ _ (sym c.lengths_refusal.ensures ∙ c.in_ok-lengths_refusal.was)).count_most,
)

pub returns-then-full : goal.returns-then-full
returns-then-full c =
    by_full _ _ _ _ _ (sym c.settings_refusal.ensures ∙ c.in_ok-settings_refusal.was) (sym c.lengths_refusal.ensures ∙ c.in_ok-lengths_refusal.was)
    (right_position _ _ (sym c.position_refusal.ensures ∙ c.in_ok-position_refusal.was)) (sym c.full.ensures ∙ c.if-full.true)

pub within_limits-requires-clause-rows_room : goal.within_limits-requires-clause-rows_room
within_limits-requires-clause-rows_room c =
    let room = (lengths_right _ _ _ _ _ (sym c.lengths_refusal.ensures ∙ c.in_ok-lengths_refusal.was)).rows_room in
    (room_after _ _ _ _ _ room (sym c.full.ensures ∙ c.if-full.false), room)

pub returns : goal.returns
returns c =
    c.within_limits.ensures
    ∙ by_limits _ _ _ _ _ (sym c.settings_refusal.ensures ∙ c.in_ok-settings_refusal.was) (sym c.lengths_refusal.ensures ∙ c.in_ok-lengths_refusal.was)
    (right_position _ _ (sym c.position_refusal.ensures ∙ c.in_ok-position_refusal.was)) (sym c.full.ensures ∙ c.if-full.false)
