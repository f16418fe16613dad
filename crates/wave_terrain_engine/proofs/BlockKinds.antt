-- What a block holds has the kinds that readings have.
use Rattle.std.proofs.Common.{List, ℕ, ◌*◌, ℤ, Float}
use Rattle.words.specs.Binary32.{◌⊗◌}
use Rattle.utils.specs.Units.{note_to_frequency}
use Rattle.utils.specs.Holds.{plus, OfReadings}
use Rattle.utils.specs.declared.holds.Holds.{Holds}
use Rattle.utils.specs.declared.engine.EngineParameters.{EngineParameters}
use Rattle.utils.proofs.Summing.{sum_has, readings_summed}
use Rattle.sine_oscillator.specs.Path.{path_run, path_run2}
use Rattle.terrain.proofs.Layers.{terrain_kinds}
use Rattle.wave_terrain_engine.specs.declared.frames.Interpolators.{Interpolators}
use Rattle.wave_terrain_engine.specs.declared.WaveTerrainEngine.{WaveTerrainEngine}
use Rattle.wave_terrain_engine.specs.Block.{oversampling, scale, Frame, height_at, frame_next, frame_holds, frames_holds, radius_of, interpolators_of, rendered}

frame_held : (sine : List Float) (bank : List ℤ) (map : List ℕ) (run run2 : List Float) (f : Frame) → OfReadings (frame_holds sine bank map run run2 f)
frame_held sine bank map run run2 f = two _ _ (two _ _ (one _ _) (one _ _)) (two _ _ (one _ _) (one _ _))
  where
    two : (a b : Holds) → OfReadings a → OfReadings b → OfReadings (plus a b)
    two = readings_summed.of_plus

    one : (ij layer : ℕ) → OfReadings (height_at sine bank map run run2 f ij layer).holds
    one ij layer = terrain_kinds sine bank map _ _ layer

frames_kinds : (sine : List Float) (bank : List ℤ) (map : List ℕ) (run run2 : List Float) (start : Interpolators) (n : ℕ)
    → OfReadings (frames_holds sine bank map run run2 start n)
frames_kinds sine bank map run run2 start n =
    sum_has OfReadings readings_summed frame_next (frame_holds sine bank map run run2) (frame_held sine bank map run run2) n _

pub block_kinds : (bank : List ℤ) (map : List ℕ) (sine high low : List Float) (n : ℕ) (p : EngineParameters) (s : WaveTerrainEngine)
    → OfReadings (rendered bank map sine high low n p s).holds
unfolding rendered
block_kinds bank map sine high low n p s =
    let f0 = note_to_frequency high low p.note p.a0_normalized in
    let radius = radius_of f0 p.timbre in
    let run = path_run s.path (f0 ⊗ scale) radius (oversampling * n) in
    let run2 = path_run2 s.path (f0 ⊗ scale) radius (oversampling * n) in
    frames_kinds sine bank map run run2 (interpolators_of map p s n) n
