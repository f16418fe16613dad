-- The filters' loop, by the law that it goes on (Going).
use Rattle.std.proofs.Common.{get_or}
use Rattle.std.specs.Float.{nan}
use Rattle.wavetable_oscillator.specs.Stages.{read}
use Rattle.wavetable_oscillator.proofs.Going.{Filtering}
use Rattle.wavetable_oscillator.proofs.frames.filter_all.Given as goal

abbrev pub invariant-loop-i : goal.invariant-loop-i
invariant-loop-i l =
    Filtering (λ j. get_or l.cutoffs j nan) (read l.bank l.keys l.phases l.waveforms) l.initial.f l.initial.lps l.lps l.f l.i
