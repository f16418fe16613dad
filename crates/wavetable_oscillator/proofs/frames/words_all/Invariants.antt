-- The loop that writes the words, by the law of lent runs that a loop fills.
use Rattle.std.proofs.Common.{get_or}
use Rattle.std.specs.Float.{nan, binary32}
use Rattle.std.specs.Float.Ieee.{to_bits}
use Rattle.words.specs.Binary32.{decimal}
use Rattle.utils.proofs.Runs.{Filling}
use Rattle.wavetable_oscillator.specs.Oscillator.{sample_of}
use Rattle.wavetable_oscillator.proofs.frames.words_all.Given as goal

abbrev pub invariant-loop-i : goal.invariant-loop-i
invariant-loop-i l =
    record {
      out_are : Filling (λ j. to_bits binary32 (sample_of (get_or l.amplitudes j nan) (get_or l.lps j nan))) 0 l.initial.out l.out l.i;
      aux_are : Filling (λ j. to_bits binary32 (decimal 0 0)) 0 l.initial.aux l.aux l.i;
    }
