-- `carry_out` is `done_of`: what each kind of call may count on once it is accepted, and a whole rendering's run.
use Rattle.std.proofs.Common.{le_refl}
use Rattle.refusals.specs.declared.Call.TheVariants.{Render, Edit, Insert, Remove}
use Rattle.refusals.proofs.Accepted.{accepted}
use Rattle.take.proofs.Calls.{render_holding, edit_retakable, insert_insertable, remove_removable, render_does}
use Rattle.take.proofs.carry_out.Goals as goal

pub run-requires : goal.run-requires
run-requires c =
    let a = accepted _ _ _ _ Render (rw c.in-Render.is at c.requires) in
    let h = render_holding _ _ _ _ a in
    record { lent = a.lent_right.tables; holding = h.1; from_lt_to = (h.0, le_refl _) }

pub returns-in-Render-clause-done : goal.returns-in-Render-clause-done
returns-in-Render-clause-done c = rw c.in-Render.is (render_does _ _ _ _ _ _ c.run.ensures.done)

pub retake-requires : goal.retake-requires
retake-requires c =
    let a = accepted _ _ _ _ (Edit c.in-Edit.position c.in-Edit.row) (rw c.in-Edit.is at c.requires) in
    record { lent = a.lent_right.tables; retakable = edit_retakable _ _ _ _ _ _ a }

pub put_in-requires : goal.put_in-requires
put_in-requires c =
    let a = accepted _ _ _ _ (Insert c.in-Insert.position c.in-Insert.row) (rw c.in-Insert.is at c.requires) in
    record { lent = a.lent_right.tables; insertable = insert_insertable _ _ _ _ _ _ a }

pub take_out-requires : goal.take_out-requires
take_out-requires c =
    let a = accepted _ _ _ _ (Remove c.in-Remove.position) (rw c.in-Remove.is at c.requires) in
    record { lent = a.lent_right.tables; removable = remove_removable _ _ _ _ _ a }
