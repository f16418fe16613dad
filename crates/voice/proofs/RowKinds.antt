-- What a block holds has the kinds of its voice, whatever kept words or fresh state it begins with.
use Rattle.std.proofs.Common.{ℕ, Bool, true, false, cond, List, ℤ, Float}
use Rattle.utils.specs.declared.engine.EngineParameters.{EngineParameters}
use Rattle.wavetable_engine.proofs.BlockKinds as wavetable
use Rattle.wave_terrain_engine.proofs.BlockKinds as terrain
use Rattle.wavetable_oscillator.proofs.BlockKinds as oscillator
use Rattle.voice.specs.declared.Voice.{Voice}
use Rattle.voice.specs.declared.Voice.TheVariants as voice
use Rattle.voice.specs.Voice.{fresh_state, state_of, rendered}
use Rattle.voice.specs.HoldKinds.{KindsOn}

pub row_kinds : (bank : List ℤ) (map : List ℕ) (n : ℕ) (p : EngineParameters) (v : Voice) (a0 : Float) (kept : List ℕ) (fresh : Bool)
    → KindsOn v (rendered bank map n p (cond fresh (fresh_state v a0) (state_of v kept))).holds
unfolding KindsOn rendered fresh_state state_of
row_kinds bank map n p voice.Wavetable a0 kept true = wavetable.block_kinds bank _ _ n p _
row_kinds bank map n p voice.Wavetable a0 kept false = wavetable.block_kinds bank _ _ n p _
row_kinds bank map n p voice.Terrain a0 kept true = terrain.block_kinds bank map _ _ _ n p _
row_kinds bank map n p voice.Terrain a0 kept false = terrain.block_kinds bank map _ _ _ n p _
row_kinds bank map n p voice.Oscillator a0 kept true = oscillator.block_kinds bank _ _ n p _
row_kinds bank map n p voice.Oscillator a0 kept false = oscillator.block_kinds bank _ _ n p _
