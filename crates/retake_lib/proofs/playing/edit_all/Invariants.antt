-- `retake_lib::playing::edit_all` meets its contract: what is left to edit and to print is the rest of the whole (Left).
use Rattle.std.proofs.Common.{◌+◌, ◌*◌, ◌≤◌}
use Rattle.arrayvec.specs.ArrayVec.{array_vec_len}
use Rattle.rows.specs.Rows.{setup_by, words_of, SamePlaces}
use Rattle.retakes.specs.Retakes.{reel}
use Rattle.outputs.specs.Lines.{most_line}
use Rattle.retake_lib.proofs.Editing.{Left}
use Rattle.retake_lib.proofs.playing.edit_all.Given as goal

abbrev pub invariant-loop-words : goal.invariant-loop-words
invariant-loop-words l =
    SamePlaces l.initial.take l.take
    × (array_vec_len l.printed ≤ array_vec_len l.initial.printed + l.words-index * most_line)
    × Left (setup_by l.patch) l.edits (reel l.n l.initial.rows (words_of l.initial.take)) l.initial.printed.items (reel l.n l.rows (words_of l.take)) l.printed.items l.words-index
