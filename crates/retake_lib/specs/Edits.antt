-- What the edits of a run leave and print, and what they count on.
use Rattle.std.specs.Prelude.{ℕ, ◌*◌, ◌≤◌, ◌≡◌, List, ◌++◌, length}
use Rattle.reader.specs.Reading.{edit_words}
use Rattle.rows.specs.Rows.{Setup, Take}
use Rattle.refusals.specs.declared.Call.{Call}
use Rattle.refusals.specs.Calls.{position}
use Rattle.retakes.specs.Retakes.{Reel, called, next, after}
use Rattle.inputs.specs.Inputs.{most_rows, most_edits}
use Rattle.outputs.specs.Lines.{edit_line}
use Rattle.retake_lib.specs.Program.{frames, edit_lines}

-- An edit was made on a score and a take, and its line stands behind what was printed.
pub record EditDone (s : Setup) (e : Call) (o o' : Reel) (printed printed' : List ℕ) : Type 0 where
  pub left : o' ≡ next s o e
  pub line : printed' ≡ printed ++ edit_line (position e) (called s o e).answer

-- So was a list of edits.
pub record EditsDone (s : Setup) (es : List Call) (o o' : Reel) (printed printed' : List ℕ) : Type 0 where
  pub left : o' ≡ after s o es
  pub lines : printed' ≡ printed ++ edit_lines s o es

-- So many edits, and a take of just so many rows, whose samples a file holds.
pub record Room (count : ℕ) (edits : List ℕ) (n frame_count : ℕ) (t : Take) : Type 0 where
  pub edits_most : count ≤ most_edits
  pub edits_long : count * edit_words ≤ length edits
  pub rows_most : n ≤ most_rows
  pub frames_are : frame_count ≡ frames
  pub out_most : length t.out ≤ n * frame_count
  pub aux_most : length t.aux ≤ n * frame_count
