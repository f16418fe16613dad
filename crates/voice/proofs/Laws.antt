-- How long a block's words and a state's kept words are, for every voice; and the fresh state comes back from its words, since its floats are floats of words.
use Rattle.std.proofs.Common.{ℕ, ◌≡◌, refl, List, false, ℤ, length, to_bits}
use Rattle.std.specs.Float.{binary32}
use Rattle.std.specs.Float.Ieee.{of_bits}
use Rattle.std.specs.Float.Ieee.Fits.{div-fits, round-fits}
use Rattle.words.specs.Binary32.{decimal}
use Rattle.words.proofs.Words.{float_back}
use Rattle.utils.specs.Units.{a0_of}
use Rattle.utils.specs.declared.engine.EngineParameters.{EngineParameters}
use Rattle.utils.proofs.Frames.{each_length}
use Rattle.wavetable_engine.specs.Wavetable as wavetable
use Rattle.wave_terrain_engine.specs.Block as terrain
use Rattle.wavetable_oscillator.specs.Oscillator as oscillator
use Rattle.voice.specs.declared.Voice.{Voice}
use Rattle.voice.specs.declared.Voice.TheVariants as voice
use Rattle.voice.specs.declared.State.{State}
use Rattle.voice.specs.declared.State.TheVariants.{Wavetable, Terrain, Oscillator}
use Rattle.voice.specs.Voice.{rendered, kept_count, kept_words, fresh_state, wavetable_of, terrain_of, oscillator_of, state_of}

pub out_long : (bank : List ℤ) (map : List ℕ) (n : ℕ) (p : EngineParameters) (s : State) → length (rendered bank map n p s).out ≡ n
unfolding rendered wavetable.rendered terrain.rendered oscillator.rendered
out_long bank map n p (Wavetable s) = each_length _ _ n _
out_long bank map n p (Terrain s) = each_length _ _ n _
out_long bank map n p (Oscillator s) = each_length _ _ n _

pub aux_long : (bank : List ℤ) (map : List ℕ) (n : ℕ) (p : EngineParameters) (s : State) → length (rendered bank map n p s).aux ≡ n
unfolding rendered wavetable.rendered terrain.rendered oscillator.rendered
aux_long bank map n p (Wavetable s) = each_length _ _ n _
aux_long bank map n p (Terrain s) = each_length _ _ n _
aux_long bank map n p (Oscillator s) = each_length _ _ n _

pub kept_long : (s : State) → length (kept_words s) ≡ kept_count
unfolding kept_words
kept_long (Wavetable s) = refl
kept_long (Terrain s) = refl
kept_long (Oscillator s) = refl

a0_back : (rate : ℕ) → of_bits binary32 (to_bits binary32 (a0_of rate)) ≡ a0_of rate
a0_back rate = float_back (a0_of rate) (div-fits binary32 _ _)

decimal_back : (m k : ℕ) → of_bits binary32 (to_bits binary32 (decimal m k)) ≡ decimal m k
unfolding decimal
decimal_back m k = float_back _ (round-fits binary32 false m _)

pub fresh_back : (v : Voice) (rate : ℕ) → state_of v (kept_words (fresh_state v (a0_of rate))) ≡ fresh_state v (a0_of rate)
unfolding state_of fresh_state kept_words wavetable_of terrain_of oscillator_of
fresh_back voice.Wavetable rate = rw (a0_back rate, decimal_back 0 0)
fresh_back voice.Terrain rate = rw (decimal_back 0 0, decimal_back 1 0)
fresh_back voice.Oscillator rate = rw (decimal_back 0 0)
