-- What a block holds has the kinds that frames have.
use Rattle.std.proofs.Common.{◌||◌, List, ℕ, ℤ, Float}
use Rattle.utils.specs.Holds.{OfFrames}
use Rattle.utils.specs.declared.engine.EngineParameters.{EngineParameters}
use Rattle.utils.proofs.Summing.{sum_has, frames_summed, frame_kinds}
use Rattle.wavetable_engine.specs.declared.WavetableEngine.{WavetableEngine}
use Rattle.wavetable_engine.specs.declared.frames.Parts.{Parts}
use Rattle.wavetable_engine.specs.Wavetable.{parts_of, moved, holds_of, Frame, framed, set_up, rendered}

parts_kinds : (p : Parts) → OfFrames (holds_of p)
unfolding holds_of
parts_kinds p = frame_kinds p.phase.held (p.x.held || p.y.held) p.z.held

frame_held : (bank : List ℤ) (lp : Float) (f : Frame) → OfFrames (framed bank lp f).holds
unfolding framed
frame_held bank lp f = parts_kinds (parts_of (moved lp f.positions))

pub block_kinds : (bank : List ℤ) (high low : List Float) (n : ℕ) (p : EngineParameters) (s : WavetableEngine) → OfFrames (rendered bank high low n p s).holds
unfolding rendered
block_kinds bank high low n p s =
    let m = set_up high low n p s in
    sum_has OfFrames frames_summed (λ f. (framed bank m.lp_coefficient f).next) (λ f. (framed bank m.lp_coefficient f).holds) (frame_held bank m.lp_coefficient) n _
