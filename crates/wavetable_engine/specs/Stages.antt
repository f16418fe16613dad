-- How the code goes through a block: not frame by frame, but in stages over the lent arrays. Of each stage, what it leaves for a frame.
use Rattle.std.specs.Prelude.{ℕ, zero, suc, ◌+◌, ◌*◌, ◌≤◌, ◌≡◌, List, get_or, Float}
use Rattle.std.specs.Float.{nan}
use Rattle.words.specs.Binary32.{◌⊗◌}
use Rattle.utils.specs.Interpolator.{stepped}
use Rattle.utils.specs.Frames.{state_after, sum_of, Filled}
use Rattle.utils.specs.declared.engine.Block.{Block}
use Rattle.utils.specs.declared.parameter_interpolator.ParameterInterpolator.{ParameterInterpolator}
use Rattle.oscillator.specs.Bank.{phase_top}
use Rattle.oscillator.specs.Readings.{cutoff_of, differentiated}
use Rattle.oscillator.specs.declared.wavetable_oscillator.Differentiator.{Differentiator}
use Rattle.wavetable_engine.specs.declared.frames.Positions.{Positions}
use Rattle.wavetable_engine.specs.declared.frames.Parts.{Parts}
use Rattle.wavetable_engine.specs.Wavetable.{x_top, y_top, z_top, moved, parts_of, holds_of, gain_of}

-- ---- the walk: where each frame reads

-- The four whole parts in one number, 8 values of x, 8 of y, 7 of z, 128 of the phase.
abbrev pub key_of : Parts → ℕ
key_of p = p.x.whole + p.y.whole * 8 + p.z.whole * 64 + p.phase.whole * 512

-- Parts within their tops.
pub record PartsFit (p : Parts) : Type 0 where
  pub x_fits : p.x.whole ≤ x_top
  pub y_fits : p.y.whole ≤ y_top
  pub z_fits : p.z.whole ≤ z_top
  pub phase_fits : p.phase.whole ≤ phase_top

-- The parts of frame j.
abbrev pub parts_at : Float → Positions → ℕ → Parts
parts_at lp start j = parts_of (moved lp (state_after (moved lp) j start))

-- The walk through `size` frames.
pub record WalkedBy (lp : Float) (start : Positions) (size : ℕ) (r : Block Positions) (keys : List ℕ) (xs ys zs phases : List Float) : Type 0 where
  pub end_is : r.state ≡ state_after (moved lp) size start
  pub holds_are : r.holds ≡ sum_of (moved lp) (λ s. holds_of (parts_of (moved lp s))) size start
  pub keys_are : Filled (λ j. key_of (parts_at lp start j)) 0 keys size
  pub xs_are : Filled (λ j. (parts_at lp start j).x.fraction) nan xs size
  pub ys_are : Filled (λ j. (parts_at lp start j).y.fraction) nan ys size
  pub zs_are : Filled (λ j. (parts_at lp start j).z.fraction) nan zs size
  pub phases_are : Filled (λ j. (parts_at lp start j).phase.fraction) nan phases size

-- ---- the differentiator

-- What it goes from frame to frame with.
pub record Differentiating : Type 0 where
  pub diff_out : Differentiator
  pub f0 : ParameterInterpolator

-- One frame on, with the frame's reading.
abbrev pub differentiate : Float → Differentiating → Differentiating
differentiate reading s =
    record {
      diff_out = (differentiated s.diff_out (cutoff_of (stepped s.f0).value) reading).next;
      f0 = stepped s.f0;
    }

-- The frame's sample.
abbrev pub sample_of : Float → Differentiating → Float
sample_of reading s = (differentiated s.diff_out (cutoff_of (stepped s.f0).value) reading).sample ⊗ gain_of (stepped s.f0).value

-- After j frames whose readings are a list's.
unfoldable pub differentiating : List Float → ℕ → Differentiating → Differentiating
differentiating readings zero s = s
differentiating readings (suc j) s = differentiate (get_or readings j nan) (differentiating readings j s)
