-- The filters' loop, by the law that it goes on (Going).
use Rattle.std.proofs.Common.{◌≡◌, arith}
use Rattle.wavetable_oscillator.proofs.Going.{filter_begins, filter_goes_on}
use Rattle.wavetable_oscillator.proofs.frames.filter_all.Goals as goal

pub loop-i-init : goal.loop-i-init
loop-i-init c = filter_begins _ _ _ _

pub loop-i-preserved : goal.loop-i-preserved
loop-i-preserved c =
    let l = c.loop-i in
    rw (c.next-f.ensures, c.read-x.ensures) (filter_goes_on _ _ _ _ l.lps l.f l.i (omega arith) l.invariant)

pub returns : goal.returns
returns c =
    let l = c.loop-i in
    let e : l.i ≡ c.args.size = omega arith in
    let g = rw e at l.invariant in
    record { end_is = g.state_is; lps_are = g.lps_are.filled }
