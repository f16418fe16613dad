-- The differentiator's loop, by the law that its stage goes on (Differentiating).
use Rattle.std.proofs.Common.{◌≡◌, ap, arith}
use Rattle.wavetable_engine.specs.Stages.{Differentiating}
use Rattle.wavetable_engine.proofs.Differentiating.{begins, goes_on}
use Rattle.wavetable_engine.proofs.frames.differentiate_all.Goals as goal

pub loop-i-init : goal.loop-i-init
loop-i-init c = begins _ _ _

pub loop-i-preserved : goal.loop-i-preserved
loop-i-preserved c =
    let l = c.loop-i in
    rw (c.gain.ensures, c.process-s.ensures, c.cutoff.ensures, c.next-f.ensures)
    (goes_on _ _ _ l.samples (record { diff_out = l.d; f0 = l.f }) l.i (omega arith) l.invariant)

pub returns : goal.returns
returns c =
    let l = c.loop-i in
    let e : l.i ≡ c.args.size = omega arith in
    let g = rw e at l.invariant in
    record { value = ap (λ (s : Differentiating). s.diff_out) g.state_is; filled = g.samples_are.filled }
