-- Document 02, N1: "Instrument 3 is `WavetableOscillator`": `render` of `wavetable_oscillator.rs`, in its order.
use Rattle.std.specs.Prelude.{ℕ, ◌+◌, ◌*◌, false, List, ℤ, pos, drop, Float}
use Rattle.std.specs.Float.{binary32}
use Rattle.std.specs.Float.Ieee.{to_bits}
use Rattle.words.specs.Binary32.{◌⊕◌, ◌⊖◌, ◌⊗◌, ◌⊘◌, decimal, of_count}
use Rattle.words.specs.Parts.{part_of}
use Rattle.words.specs.declared.Part.{Part}
use Rattle.utils.specs.Utils.{clamp_of, one_pole}
use Rattle.utils.specs.Units.{note_to_frequency}
use Rattle.utils.specs.Interpolator.{interpolator, stepped}
use Rattle.utils.specs.Holds.{of_frame}
use Rattle.utils.specs.Frames.{state_after, each_of, sum_of}
use Rattle.utils.specs.Rendered.{Rendered}
use Rattle.utils.specs.declared.holds.Holds.{Holds}
use Rattle.utils.specs.declared.engine.EngineParameters.{EngineParameters}
use Rattle.oscillator.specs.Bank.{wave_length, table_size_f, phase_top}
use Rattle.oscillator.specs.Readings.{advanced, cutoff_of, differentiated, interpolate_wave, float_of_i16}
use Rattle.wavetable_oscillator.specs.declared.WavetableOscillator.{WavetableOscillator}
use Rattle.wavetable_oscillator.specs.declared.Targets.{Targets}
use Rattle.wavetable_oscillator.specs.declared.frames.Positions.{Positions}
use Rattle.wavetable_oscillator.specs.declared.frames.Filters.{Filters}

-- "64 waves (the first 64 of the bank, 132 words each)".
abbrev pub num_waves : ℕ
num_waves = 64

-- MAX_FREQUENCY of `oscillator.rs`.
abbrev pub max_frequency : Float
max_frequency = decimal 25 2

-- Where a block's parameters go to: "with amplitude 1, waveform from timbre, .. both flags true. Frequency comes from note."
unfoldable pub targets_of : List Float → List Float → EngineParameters → Targets
targets_of high low parameters =
    let f0 = note_to_frequency high low parameters.note parameters.a0_normalized in
    let frequency = clamp_of f0 (decimal 1 7) max_frequency in
    record {
      frequency = frequency;
      amplitude = decimal 1 0 ⊗ (decimal 1 0 ⊖ decimal 2 0 ⊗ frequency) ⊗ (decimal 1 0 ⊘ (frequency ⊗ decimal 131072 0));
      waveform = parameters.timbre ⊗ (of_count num_waves ⊖ decimal 10001 4);
    }

-- What the first of `size` frames begins with: the parameters on their way.
unfoldable pub begun : ℕ → Targets → WavetableOscillator → Positions
begun size t s =
    record {
      phase = s.phase;
      frequency_modulation = interpolator s.frequency t.frequency size;
      amplitude_modulation = interpolator s.amplitude t.amplitude size;
      waveform_modulation = interpolator s.waveform t.waveform size;
    }

-- ---- a frame

-- The parameters and the phase one frame on.
unfoldable pub moved : Positions → Positions
moved s =
    record {
      phase = advanced s.phase (stepped s.frequency_modulation).value;
      frequency_modulation = stepped s.frequency_modulation;
      amplitude_modulation = stepped s.amplitude_modulation;
      waveform_modulation = stepped s.waveform_modulation;
    }

-- "A whole waveform number above 62 (the Rust would read a 65th table) and a whole phase above 127 are held there, fractions against
-- the held number".
abbrev pub waveform_top : ℕ
waveform_top = 62

abbrev pub waveform_part : Positions → Part
waveform_part s = part_of waveform_top s.waveform_modulation.value

abbrev pub phase_part : Positions → Part
phase_part s = part_of phase_top (s.phase ⊗ table_size_f)

-- "and a frame with any hold counts 1". "The plain oscillator's held waveform is a wave position."
abbrev pub holds_of : Part → Part → Holds
holds_of waveform phase = of_frame phase.held waveform.held false

-- A wave at a phase: `interpolate_wave(wavetable[wave], ..)`.
unfoldable pub read_wave : List ℤ → ℕ → Part → Float
read_wave bank wave phase = interpolate_wave float_of_i16 (pos 0) (drop (wave * wave_length) bank) phase.whole phase.fraction

-- Between two waves. `scale` is 1.0, as `approximate_scale` is true.
abbrev pub between : Float → Float → Float → Float
between x0 x1 fractional = (x0 ⊕ (x1 ⊖ x0) ⊗ fractional) ⊗ decimal 1 0

-- What goes to the differentiator.
unfoldable pub reading : List ℤ → Part → Part → Float
reading bank waveform phase =
    between (read_wave bank waveform.whole phase) (read_wave bank (waveform.whole + 1) phase) waveform.fraction

-- The differentiator and the low-pass filter behind it, one frame on.
unfoldable pub filtered : Float → Float → Filters → Filters
filtered cutoff x f =
    let d = differentiated f.differentiator cutoff x in
    record { lp = one_pole f.lp d.sample cutoff; differentiator = d.next }

-- What goes from frame to frame.
pub record Frame : Type 0 where
  pub positions : Positions
  pub filters : Filters

-- What a frame leaves and gives.
pub record Framed : Type 0 where
  pub next : Frame
  pub out : Float
  pub aux : Float
  pub holds : Holds

-- "Out starts at zero before its `render` adds to it".
abbrev pub sample_of : Float → Float → Float
sample_of amplitude lp = decimal 0 0 ⊕ amplitude ⊗ lp

-- A frame. "aux is +0".
unfoldable pub framed : List ℤ → Frame → Framed
framed bank s =
    let positions = moved s.positions in
    let f0 = positions.frequency_modulation.value in
    let waveform = waveform_part positions in
    let phase = phase_part positions in
    let filters = filtered (cutoff_of f0) (reading bank waveform phase) s.filters in
    record {
      next = record { positions = positions; filters = filters };
      out = sample_of positions.amplitude_modulation.value filters.lp;
      aux = decimal 0 0;
      holds = holds_of waveform phase;
    }

-- ---- a block

-- `render`: a block of `size` frames. The interpolators' end values go back to the state.
unfoldable pub rendered : List ℤ → List Float → List Float → ℕ → EngineParameters → WavetableOscillator → Rendered WavetableOscillator
rendered bank high low size parameters s =
    let next : Frame → Frame = λ f. (framed bank f).next in
    let filters : Filters = record { lp = s.lp; differentiator = s.differentiator } in
    let start : Frame = record { positions = begun size (targets_of high low parameters) s; filters = filters } in
    let end = state_after next size start in
    record {
      state =
          record {
            phase = end.positions.phase;
            frequency = end.positions.frequency_modulation.value;
            amplitude = end.positions.amplitude_modulation.value;
            waveform = end.positions.waveform_modulation.value;
            lp = end.filters.lp;
            differentiator = end.filters.differentiator;
          };
      out = each_of next (λ f. to_bits binary32 (framed bank f).out) size start;
      aux = each_of next (λ f. to_bits binary32 (framed bank f).aux) size start;
      holds = sum_of next (λ f. (framed bank f).holds) size start;
    }

-- The fresh state: `init`, all zeros.
abbrev pub fresh : WavetableOscillator
fresh =
    record {
      phase = decimal 0 0;
      frequency = decimal 0 0;
      amplitude = decimal 0 0;
      waveform = decimal 0 0;
      lp = decimal 0 0;
      differentiator = record { lp = decimal 0 0; previous = decimal 0 0 };
    }
