-- `retake_lib::playing::edit` meets its contract: the call is that of the six words (edit_done), and the line is printed whole (written_first).
use Rattle.std.proofs.Common.{◌∙◌, ap, List, ℕ, ◌++◌}
use Rattle.formats.proofs.Writing.{written_first}
use Rattle.retake_lib.proofs.Editing.{edit_done}
use Rattle.retake_lib.proofs.playing.edit.Goals as goal

pub returns-clause-done : goal.returns-clause-done
returns-clause-done c =
    let before = c.args.printed.now.items in
    edit_done _ _ _ _ c.args.words c.edit-answer.ensures.call (c.print.ensures.bytes ∙ ap (λ (l : List ℕ). before ++ l) (written_first c.put_answer-end.ensures.written))
