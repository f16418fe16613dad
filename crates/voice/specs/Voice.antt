-- Document 01, "Rows, states, retakes", and document 02, N1: the state of a voice, its kept words, and the block of a row.
use Rattle.std.specs.Prelude.{ℕ, cond, List, [], ◌∷◌, eqb, ℤ, get_or, Float}
use Rattle.std.specs.Float.{binary32}
use Rattle.std.specs.Float.Ieee.{of_bits, to_bits}
use Rattle.utils.specs.Units.{lut_pitch_ratio_high, lut_pitch_ratio_low}
use Rattle.utils.specs.Rendered.{Rendered}
use Rattle.utils.specs.declared.engine.EngineParameters.{EngineParameters}
use Rattle.sine_oscillator.specs.Sine.{lut_sine}
use Rattle.wavetable_engine.specs.Wavetable as wavetable
use Rattle.wavetable_engine.specs.declared.WavetableEngine.{WavetableEngine}
use Rattle.wave_terrain_engine.specs.Block as terrain
use Rattle.wave_terrain_engine.specs.declared.WaveTerrainEngine.{WaveTerrainEngine}
use Rattle.wavetable_oscillator.specs.Oscillator as oscillator
use Rattle.wavetable_oscillator.specs.declared.WavetableOscillator.{WavetableOscillator}
use Rattle.voice.specs.declared.Voice.{Voice}
use Rattle.voice.specs.declared.Voice.TheVariants as voice
use Rattle.voice.specs.declared.State.{State}
use Rattle.voice.specs.declared.State.TheVariants.{Wavetable, Terrain, Oscillator}
pub use Rattle.terrain.specs.Layers.{Lent}

-- "0 wavetable, 1 terrain, 2 terrain with map"; "Instrument 3 is `WavetableOscillator`".
abbrev pub wavetable_instrument : ℕ
wavetable_instrument = 0

abbrev pub terrain_instrument : ℕ
terrain_instrument = 1

abbrev pub map_instrument : ℕ
map_instrument = 2

abbrev pub oscillator_instrument : ℕ
oscillator_instrument = 3

-- Which voice an instrument plays. A number that is no instrument's is refused by every call; it stands with the wavetable voice.
unfoldable pub voice_of : ℕ → Voice
voice_of instrument =
    cond (eqb instrument wavetable_instrument) voice.Wavetable
    (cond (eqb instrument terrain_instrument) voice.Terrain
    (cond (eqb instrument map_instrument) voice.Terrain
    (cond (eqb instrument oscillator_instrument) voice.Oscillator voice.Wavetable)))

-- "The state is one of two voices, each carrying its own floats, and starts from the value that its type names as fresh."
-- "The voice state gains a third case".
unfoldable pub fresh_state : Voice → Float → State
fresh_state voice.Wavetable a0 = Wavetable (wavetable.fresh a0)
fresh_state voice.Terrain a0 = Terrain terrain.fresh
fresh_state voice.Oscillator a0 = Oscillator oscillator.fresh

-- The word of a float: "Any NaN is written as 7fc00000 in out, aux and kept".
abbrev word : Float → ℕ
word x = to_bits binary32 x

-- "Kept after each row, 13 words."
abbrev pub kept_count : ℕ
kept_count = 13

-- "Wavetable: phase; pre x, y, z; lp x, y, z; previous x, y, z, f0; differentiator lp, previous.
-- Terrain: path x, y, epsilon, amplitude; offset; terrain index; seven zeros."
-- The plain oscillator: "phase, frequency, amplitude, waveform, lp, differentiator lp and previous, then six zero words."
unfoldable pub kept_words : State → List ℕ
kept_words (Wavetable s) =
    word s.phase
    ∷ word s.x_pre_lp
    ∷ word s.y_pre_lp
    ∷ word s.z_pre_lp
    ∷ word s.x_lp
    ∷ word s.y_lp
    ∷ word s.z_lp
    ∷ word s.previous_x
    ∷ word s.previous_y
    ∷ word s.previous_z
    ∷ word s.previous_f0
    ∷ word s.diff_out.lp
    ∷ word s.diff_out.previous
    ∷ []
kept_words (Terrain s) =
    word s.path.x ∷ word s.path.y ∷ word s.path.epsilon ∷ word s.path.amplitude ∷ word s.offset ∷ word s.terrain_idx ∷ 0 ∷ 0 ∷ 0 ∷ 0 ∷ 0 ∷ 0 ∷ 0 ∷ []
kept_words (Oscillator s) =
    word s.phase
    ∷ word s.frequency
    ∷ word s.amplitude
    ∷ word s.waveform
    ∷ word s.lp
    ∷ word s.differentiator.lp
    ∷ word s.differentiator.previous
    ∷ 0
    ∷ 0
    ∷ 0
    ∷ 0
    ∷ 0
    ∷ 0
    ∷ []

-- A kept word's float.
abbrev float : List ℕ → ℕ → Float
float kept i = of_bits binary32 (get_or kept i 0)

-- The state by 13 kept words, whatever they are; of a terrain's the last seven are no part, of a plain oscillator's the last six.
unfoldable pub wavetable_of : List ℕ → WavetableEngine
wavetable_of kept =
    record {
      phase = float kept 0;
      x_pre_lp = float kept 1;
      y_pre_lp = float kept 2;
      z_pre_lp = float kept 3;
      x_lp = float kept 4;
      y_lp = float kept 5;
      z_lp = float kept 6;
      previous_x = float kept 7;
      previous_y = float kept 8;
      previous_z = float kept 9;
      previous_f0 = float kept 10;
      diff_out = record { lp = float kept 11; previous = float kept 12 };
    }

unfoldable pub terrain_of : List ℕ → WaveTerrainEngine
terrain_of kept =
    record {
      path = record { x = float kept 0; y = float kept 1; epsilon = float kept 2; amplitude = float kept 3 };
      offset = float kept 4;
      terrain_idx = float kept 5;
    }

unfoldable pub oscillator_of : List ℕ → WavetableOscillator
oscillator_of kept =
    record {
      phase = float kept 0;
      frequency = float kept 1;
      amplitude = float kept 2;
      waveform = float kept 3;
      lp = float kept 4;
      differentiator = record { lp = float kept 5; previous = float kept 6 };
    }

unfoldable pub state_of : Voice → List ℕ → State
state_of voice.Wavetable kept = Wavetable (wavetable_of kept)
state_of voice.Terrain kept = Terrain (terrain_of kept)
state_of voice.Oscillator kept = Oscillator (oscillator_of kept)

-- A voice's own block, as a block of any state.
abbrev pub among : {S : Type 0} → (S → State) → Rendered S → Rendered State
among of b = record { out = b.out; aux = b.aux; state = of b.state; holds = b.holds }

-- A block, made from a state and a row's parameters by the voice that the state is of.
unfoldable pub rendered : List ℤ → List ℕ → ℕ → EngineParameters → State → Rendered State
rendered bank map n parameters (Wavetable s) = among Wavetable (wavetable.rendered bank lut_pitch_ratio_high lut_pitch_ratio_low n parameters s)
rendered bank map n parameters (Terrain s) =
    among Terrain (terrain.rendered bank map lut_sine lut_pitch_ratio_high lut_pitch_ratio_low n parameters s)
rendered bank map n parameters (Oscillator s) =
    among Oscillator (oscillator.rendered bank lut_pitch_ratio_high lut_pitch_ratio_low n parameters s)
