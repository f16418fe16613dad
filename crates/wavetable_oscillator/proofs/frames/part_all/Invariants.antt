-- The loop over the parts, by the law that it goes on (Going).
use Rattle.wavetable_oscillator.proofs.Going.{Parting}
use Rattle.wavetable_oscillator.proofs.frames.part_all.Given as goal

abbrev pub invariant-loop-i : goal.invariant-loop-i
invariant-loop-i l =
    let b = l.initial in
    Parting b.phases b.waveforms b.keys l.phases l.waveforms l.keys l.holds l.i
