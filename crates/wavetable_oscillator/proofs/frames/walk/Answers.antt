-- The walk's loop, by the law that a walk goes on (Going).
use Rattle.std.proofs.Common.{arith}
use Rattle.std.specs.Float.Ieee.{of_bits}
use Rattle.words.specs.Binary32.{decimal}
use Rattle.oscillator.proofs.Sizes.{period_float}
use Rattle.wavetable_oscillator.proofs.Going.{walk_begins, walk_goes_on, walk_ends}
use Rattle.wavetable_oscillator.proofs.frames.walk.Goals as goal

pub loop-i-init : goal.loop-i-init
loop-i-init c = walk_begins _ _ _ _ _

pub loop-i-preserved : goal.loop-i-preserved
unfolding of_bits decimal
loop-i-preserved c =
    let l = c.loop-i in
    rw (c.cutoff.ensures, c.next-s.ensures)
    (rw period_float at (walk_goes_on _ _ _ _ _ l.phases l.waveforms l.cutoffs l.amplitudes l.s l.i
    (omega arith) (omega arith) (omega arith) (omega arith) l.invariant))

pub returns : goal.returns
returns c =
    let l = c.loop-i in
    walk_ends _ _ _ _ _ l.phases l.waveforms l.cutoffs l.amplitudes l.s l.i _ (omega arith) l.invariant
