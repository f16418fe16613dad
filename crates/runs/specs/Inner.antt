-- What the functions of this crate require and ensure among themselves: that rows lie within the lent words, and that a row is made and written.
use Rattle.std.specs.Prelude.{ℕ, ◌+◌, ◌*◌, ◌≤◌, ◌<◌, ◌≡◌, List, Bool, length}
use Rattle.lists.specs.Lists.{same}
use Rattle.utils.specs.Rendered.{most_frames, most_holds}
use Rattle.utils.specs.Holds.{AtMost}
use Rattle.utils.specs.declared.holds.Holds.{Holds}
use Rattle.score.specs.Rows.{row_words, most_rows}
use Rattle.voice.specs.Voice.{kept_count}
use Rattle.rows.specs.Rows.{Setup, Take, Row, kept_at, row_in, put_words}

-- What is lent for a block: a word of out and of aux for each frame.
pub record Blocks (frames : ℕ) (out aux : List ℕ) : Type 0 where
  pub frames_most : frames ≤ most_frames
  pub out_long : length out ≡ frames
  pub aux_long : length aux ≡ frames

-- The lent words hold n rows.
pub record Holding (frames n : ℕ) (rows : List ℕ) (t : Take) : Type 0 where
  pub frames_most : frames ≤ most_frames
  pub rows_most : n ≤ most_rows
  pub rows_room : n * row_words ≤ length rows
  pub out_room : n * frames ≤ length t.out
  pub aux_room : n * frames ≤ length t.aux
  pub kept_room : n * kept_count ≤ length t.kept

-- Row k lies within the lent words.
pub record Room (frames k : ℕ) (rows : List ℕ) (t : Take) : Type 0 where
  pub frames_most : frames ≤ most_frames
  pub row_most : k < most_rows
  pub rows_room : k * row_words + row_words ≤ length rows
  pub out_room : k * frames + frames ≤ length t.out
  pub aux_room : k * frames + frames ≤ length t.aux
  pub kept_room : k * kept_count + kept_count ≤ length t.kept

-- A row is made: its block's words, its kept words and its holds.
pub record Makes (frames : ℕ) (m : Row) (holds : Holds) (out aux kept : List ℕ) : Type 0 where
  pub out_is : out ≡ m.words.out
  pub aux_is : aux ≡ m.words.aux
  pub kept_is : kept ≡ m.words.kept
  pub holds_is : holds ≡ m.holds
  pub holds_most : AtMost (most_holds * frames) holds

-- A take is as long as another.
pub record SameLengths (t u : Take) : Type 0 where
  pub out_long : length u.out ≡ length t.out
  pub aux_long : length u.aux ≡ length t.aux
  pub kept_long : length u.kept ≡ length t.kept

-- Row k is made and written: its holds, whether it keeps the words that stood there, and the take with its words put in.
pub record RowDone (s : Setup) (rows : List ℕ) (k : ℕ) (t : Take) (holds : Holds) (unchanged : Bool) (left : Take) : Type 0 where
  pub holds_is : holds ≡ (row_in s rows t.kept k).holds
  pub holds_most : AtMost (most_holds * s.frames) holds
  pub same_is : unchanged ≡ same (kept_at t.kept k) (row_in s rows t.kept k).words.kept
  pub left_is : left ≡ put_words s.frames t k (row_in s rows t.kept k).words
  pub lengths : SameLengths t left
