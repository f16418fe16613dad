-- The loop that writes the words, by the law of lent runs that a loop fills.
use Rattle.std.proofs.Common.{arith, refl}
use Rattle.std.specs.Float.Ieee.{of_bits, to_bits}
use Rattle.words.specs.Binary32.{decimal}
use Rattle.utils.proofs.Runs.{filling_none, filling_more}
use Rattle.wavetable_oscillator.proofs.frames.words_all.Goals as goal

pub loop-i-init : goal.loop-i-init
loop-i-init c = record { out_are = filling_none _ _ _; aux_are = filling_none _ _ _ }

pub loop-i-preserved : goal.loop-i-preserved
unfolding of_bits decimal to_bits
loop-i-preserved c =
    let g = c.loop-i.invariant in
    record {
      out_are = filling_more _ _ _ _ _ _ (omega arith) c.to_word.ensures g.out_are;
      aux_are = filling_more _ _ _ _ _ _ (omega arith) refl g.aux_are;
    }
