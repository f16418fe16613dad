-- What a block holds has the kinds that frames have.
use Rattle.std.proofs.Common.{false, List, ℕ, ℤ, Float}
use Rattle.utils.specs.Holds.{OfFrames}
use Rattle.utils.specs.declared.engine.EngineParameters.{EngineParameters}
use Rattle.utils.proofs.Summing.{sum_has, frames_summed, frame_kinds}
use Rattle.wavetable_oscillator.specs.declared.WavetableOscillator.{WavetableOscillator}
use Rattle.wavetable_oscillator.specs.Oscillator.{moved, waveform_part, phase_part, Frame, framed, rendered}

frame_held : (bank : List ℤ) (f : Frame) → OfFrames (framed bank f).holds
unfolding framed
frame_held bank f =
    let s = moved f.positions in
    frame_kinds (phase_part s).held (waveform_part s).held false

pub block_kinds : (bank : List ℤ) (high low : List Float) (n : ℕ) (p : EngineParameters) (s : WavetableOscillator) → OfFrames (rendered bank high low n p s).holds
unfolding rendered
block_kinds bank high low n p s = sum_has OfFrames frames_summed (λ f. (framed bank f).next) (λ f. (framed bank f).holds) (frame_held bank) n _
