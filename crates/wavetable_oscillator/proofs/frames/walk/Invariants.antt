-- The walk's loop, by the law that a walk goes on (Going).
use Rattle.wavetable_oscillator.proofs.Going.{Walking}
use Rattle.wavetable_oscillator.proofs.frames.walk.Given as goal

abbrev pub invariant-loop-i : goal.invariant-loop-i
invariant-loop-i l =
    let b = l.initial in
    Walking b.s b.phases b.waveforms b.cutoffs b.amplitudes l.phases l.waveforms l.cutoffs l.amplitudes l.s l.i
