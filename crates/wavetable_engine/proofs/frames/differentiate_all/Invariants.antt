-- The differentiator's loop, by the law that its stage goes on (Differentiating).
use Rattle.wavetable_engine.proofs.Differentiating.{Going}
use Rattle.wavetable_engine.proofs.frames.differentiate_all.Given as goal

abbrev pub invariant-loop-i : goal.invariant-loop-i
invariant-loop-i l =
    Going l.mixes (record { diff_out = l.initial.d; f0 = l.initial.f }) l.initial.samples l.samples (record { diff_out = l.d; f0 = l.f }) l.i
