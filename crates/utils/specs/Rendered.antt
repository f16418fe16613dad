-- A voice's block, in the words that every voice uses: what a block gives, and what a call of `render` leaves by it.
use Rattle.std.specs.Prelude.{ℕ, ◌*◌, ◌≤◌, ◌≡◌, List, length}
use Rattle.utils.specs.Holds.{AtMost}
use Rattle.utils.specs.declared.holds.Holds.{Holds}

-- "frames 0 or above 128" are refused.
abbrev pub most_frames : ℕ
most_frames = 128

-- "two runs of 256 floats, of which twice the frame count is used"; and eight corners for each frame.
abbrev pub run_length : ℕ
run_length = 2 * most_frames

abbrev pub corners_length : ℕ
corners_length = 8 * most_frames

-- What a block gives: its out and aux words, the next state, and what was held.
pub record Rendered (S : Type 0) : Type 0 where
  pub out : List ℕ
  pub aux : List ℕ
  pub state : S
  pub holds : Holds

-- The places that are lent for the samples: one in out and one in aux for each frame.
pub record Places (out aux : List ℕ) : Type 0 where
  pub few_frames : length out ≤ most_frames
  pub aux_long : length aux ≡ length out

-- The most holds of a frame: a terrain's readings, two oversamples of two layers.
abbrev pub most_holds : ℕ
most_holds = 4

-- What a call of `render` leaves, by a block of n frames: the words lent, the state and the holds that it answers.
pub record Renders {S : Type 0} (b : Rendered S) (n : ℕ) (state : S) (holds : Holds) (out aux : List ℕ) : Type 0 where
  pub out_is : out ≡ b.out
  pub aux_is : aux ≡ b.aux
  pub state_is : state ≡ b.state
  pub holds_is : holds ≡ b.holds
  pub holds_most : AtMost (most_holds * n) holds
