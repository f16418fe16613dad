-- Document 01, "Wavetable voice": `wavetable_engine.rs`, in its order.
use Rattle.std.specs.Prelude.{ℕ, ◌||◌, List, ℤ, Float}
use Rattle.std.specs.Float.{binary32}
use Rattle.std.specs.Float.Ieee.{neg, to_bits}
use Rattle.words.specs.Binary32.{◌⊕◌, ◌⊖◌, ◌⊗◌, ◌⊘◌, decimal}
use Rattle.words.specs.Parts.{whole_float, whole_i32_float, part_of}
use Rattle.utils.specs.Utils.{clamp_of, one_pole}
use Rattle.utils.specs.Units.{note_to_frequency}
use Rattle.utils.specs.Interpolator.{interpolator, stepped}
use Rattle.utils.specs.Holds.{of_frame}
use Rattle.utils.specs.Frames.{state_after, each_of, sum_of}
use Rattle.utils.specs.Rendered.{Rendered}
use Rattle.utils.specs.declared.holds.Holds.{Holds}
use Rattle.utils.specs.declared.engine.EngineParameters.{EngineParameters}
use Rattle.oscillator.specs.Bank.{table_size_f, phase_top}
use Rattle.oscillator.specs.Readings.{advanced, cutoff_of, differentiated}
use Rattle.oscillator.specs.declared.wavetable_oscillator.Differentiator.{Differentiator}
use Rattle.waves.specs.Waves.{corners_at, fold_x, fold_y, fold_z}
use Rattle.wavetable_engine.specs.declared.WavetableEngine.{WavetableEngine}
use Rattle.wavetable_engine.specs.declared.SetUp.{SetUp}
use Rattle.wavetable_engine.specs.declared.frames.Positions.{Positions}
use Rattle.wavetable_engine.specs.declared.frames.Parts.{Parts}

-- `clamp` of this file: x around 0.5, made steeper by `amount`.
abbrev pub clamp_by : Float → Float → Float
clamp_by x amount = clamp_of ((x ⊖ decimal 5 1) ⊗ amount) (neg (decimal 5 1)) (decimal 5 1) ⊕ decimal 5 1

-- A position, drawn towards a whole number. "Whole parts taken once a block, before its frames, have no top."
unfoldable pub quantised : Float → Float → Float
quantised x quantization =
    let integral = whole_float x in
    let fractional = x ⊖ integral in
    integral ⊕ (fractional ⊕ quantization ⊗ (clamp_by fractional (decimal 16 0) ⊖ fractional))

-- What a block of `size` frames works out before them.
unfoldable pub set_up : List Float → List Float → ℕ → EngineParameters → WavetableEngine → SetUp
set_up high low size parameters s =
    let f0 = note_to_frequency high low parameters.note parameters.a0_normalized in
    let x = one_pole s.x_pre_lp (parameters.timbre ⊗ decimal 69999 4) (decimal 2 1) in
    let y = one_pole s.y_pre_lp (parameters.morph ⊗ decimal 69999 4) (decimal 2 1) in
    let z = one_pole s.z_pre_lp (parameters.harmonics ⊗ decimal 69999 4) (decimal 5 2) in
    let quantization = clamp_of (z ⊖ decimal 3 0) (decimal 0 0) (decimal 1 0) in
    record {
      x_pre_lp = x;
      y_pre_lp = y;
      z_pre_lp = z;
      lp_coefficient = clamp_of (decimal 2 0 ⊗ f0 ⊗ (decimal 4 0 ⊖ decimal 3 0 ⊗ quantization)) (decimal 1 2) (decimal 1 1);
      start =
          record {
            phase = s.phase;
            x_lp = s.x_lp;
            y_lp = s.y_lp;
            z_lp = s.z_lp;
            x_modulation = interpolator s.previous_x (quantised x quantization) size;
            y_modulation = interpolator s.previous_y (quantised y quantization) size;
            z_modulation = interpolator s.previous_z (quantised z quantization) size;
            f0_modulation = interpolator s.previous_f0 f0 size;
          };
    }

-- ---- a frame

-- The parameters, the smoothed x, y and z, and the phase one frame on.
unfoldable pub moved : Float → Positions → Positions
moved lp s =
    record {
      phase = advanced s.phase (stepped s.f0_modulation).value;
      x_lp = one_pole s.x_lp (stepped s.x_modulation).value lp;
      y_lp = one_pole s.y_lp (stepped s.y_modulation).value lp;
      z_lp = one_pole s.z_lp (stepped s.z_modulation).value lp;
      x_modulation = stepped s.x_modulation;
      y_modulation = stepped s.y_modulation;
      z_modulation = stepped s.z_modulation;
      f0_modulation = stepped s.f0_modulation;
    }

-- "tops: phase 127, x 7, y 7, z 6"; phase_top is the bank's.
abbrev pub x_top : ℕ
x_top = 7

abbrev pub y_top : ℕ
y_top = 7

abbrev pub z_top : ℕ
z_top = 6

-- "Positions (whole parts) have tops .. A greater one is held at its top, and the fraction is taken against the held number."
unfoldable pub parts_of : Positions → Parts
parts_of s =
    record {
      x = part_of x_top s.x_lp;
      y = part_of y_top s.y_lp;
      z = part_of z_top s.z_lp;
      phase = part_of phase_top (s.phase ⊗ table_size_f);
    }

-- What a frame holds: "phase, wave position (x or y), level (z)".
unfoldable pub holds_of : Parts → Holds
holds_of p = of_frame p.phase.held (p.x.held || p.y.held) p.z.held

-- What a frame reads: its corners, folded by the fractions of x, y and z.
unfoldable pub reading : List ℤ → Parts → Float
reading bank p =
    let c = corners_at bank p.phase.whole p.phase.fraction p.x.whole p.y.whole p.z.whole in
    fold_z (fold_y (fold_x c p.x.fraction) p.y.fraction) p.z.fraction

unfoldable pub gain_of : Float → Float
gain_of f0 = (decimal 1 0 ⊘ (f0 ⊗ decimal 131072 0)) ⊗ (decimal 95 2 ⊖ f0)

-- The aux sample: through the whole part to i32.
unfoldable pub lofi : Float → Float
lofi x = whole_i32_float (x ⊗ decimal 32 0) ⊘ decimal 32 0

-- What goes from frame to frame.
pub record Frame : Type 0 where
  pub positions : Positions
  pub diff_out : Differentiator

-- What a frame leaves and gives.
pub record Framed : Type 0 where
  pub next : Frame
  pub out : Float
  pub aux : Float
  pub holds : Holds

-- A frame.
unfoldable pub framed : List ℤ → Float → Frame → Framed
framed bank lp s =
    let positions = moved lp s.positions in
    let f0 = positions.f0_modulation.value in
    let parts = parts_of positions in
    let d = differentiated s.diff_out (cutoff_of f0) (reading bank parts) in
    let sample = d.sample ⊗ gain_of f0 in
    record {
      next = record { positions = positions; diff_out = d.next };
      out = sample;
      aux = lofi sample;
      holds = holds_of parts;
    }

-- ---- a block

-- `render`: a block of `size` frames. The interpolators' end values go back to the state. "Any NaN is written as 7fc00000".
unfoldable pub rendered : List ℤ → List Float → List Float → ℕ → EngineParameters → WavetableEngine → Rendered WavetableEngine
rendered bank high low size parameters s =
    let m = set_up high low size parameters s in
    let frame = framed bank m.lp_coefficient in
    let start : Frame = record { positions = m.start; diff_out = s.diff_out } in
    let end = state_after (λ f. (frame f).next) size start in
    record {
      state =
          record {
            phase = end.positions.phase;
            x_pre_lp = m.x_pre_lp;
            y_pre_lp = m.y_pre_lp;
            z_pre_lp = m.z_pre_lp;
            x_lp = end.positions.x_lp;
            y_lp = end.positions.y_lp;
            z_lp = end.positions.z_lp;
            previous_x = end.positions.x_modulation.value;
            previous_y = end.positions.y_modulation.value;
            previous_z = end.positions.z_modulation.value;
            previous_f0 = end.positions.f0_modulation.value;
            diff_out = end.diff_out;
          };
      out = each_of (λ f. (frame f).next) (λ f. to_bits binary32 (frame f).out) size start;
      aux = each_of (λ f. (frame f).next) (λ f. to_bits binary32 (frame f).aux) size start;
      holds = sum_of (λ f. (frame f).next) (λ f. (frame f).holds) size start;
    }

-- The fresh state: `init`. Previous f0 is the a0 that is handed in, 55 divided by the rate.
abbrev pub fresh : Float → WavetableEngine
fresh a0 =
    record {
      phase = decimal 0 0;
      x_pre_lp = decimal 0 0;
      y_pre_lp = decimal 0 0;
      z_pre_lp = decimal 0 0;
      x_lp = decimal 0 0;
      y_lp = decimal 0 0;
      z_lp = decimal 0 0;
      previous_x = decimal 0 0;
      previous_y = decimal 0 0;
      previous_z = decimal 0 0;
      previous_f0 = a0;
      diff_out = record { lp = decimal 0 0; previous = decimal 0 0 };
    }
