-- `retake_lib::playing::play_take` meets its contract: the rendering, the heading, the edits (edits_of) and the files put together (played_is).
-- The samples of the take that the edits leave fit a file (samples_fit).
use Rattle.std.proofs.Common.{◌∙◌, ap, List, ℕ, ◌++◌}
use Rattle.formats.proofs.Writing.{written_first}
use Rattle.retake_lib.proofs.Editing.{edits_of}
use Rattle.retake_lib.proofs.Outputs.{played_is}
use Rattle.retake_lib.proofs.Exact.{samples_fit}
use Rattle.retake_lib.proofs.playing.play_take.Goals as goal

pub put_files_in-requires : goal.put_files_in-requires
put_files_in-requires c =
    let room = c.requires.room in
    let done = rw (edits_of _ _ _ c.as_chunks.ensures.front room.edits_long) at c.edit_all.ensures.done in
    let fit = samples_fit _ _ _ _ _ _ room.out_most room.aux_most room.rows_most room.frames_are c.render.ensures.call done in
    record { out_in_bounds = fit.0; aux_in_bounds = fit.1 }

pub returns-clause-output : goal.returns-clause-output
returns-clause-output c =
    let done = rw (edits_of _ _ _ c.as_chunks.ensures.front c.requires.room.edits_long) at c.edit_all.ensures.done in
    let none = c.args.printed.now.items in
    let heading = c.print.ensures.bytes ∙ ap (λ (l : List ℕ). none ++ l) (written_first c.put_heading-end.ensures.written) in
    played_is _ _ _ _ _ c.render.ensures.call c.requires.empty heading done c.put_files_in.ensures
