-- The walk's loop, by the law that a walk goes on (Walking).
use Rattle.std.proofs.Common.{◌≡◌, arith, rules}
use Rattle.utils.specs.Holds.{none}
use Rattle.utils.proofs.Sums.{most_more, most_plus}
use Rattle.wavetable_engine.proofs.Walking.{lists, begins, goes_on, ends, parts_fit, frame_most}
use Rattle.wavetable_engine.proofs.frames.walk.Goals as goal

pub loop-i-init : goal.loop-i-init
loop-i-init c =
    let none_yet : c.default-holds.result ≡ none = search rules in
    rw none_yet (begins _ _ _)

pub key-requires : goal.key-requires
key-requires c = parts_fit _ _ c.parts-p.ensures

pub with_held-holds-requires : goal.with_held-holds-requires
with_held-holds-requires c =
    most_more (omega arith) (most_plus c.loop-i.invariant.few (frame_most c.parts-p.result))

pub loop-i-preserved : goal.loop-i-preserved
loop-i-preserved c =
    let l = c.loop-i in
    rw (c.with_held-holds.ensures, c.key.ensures, c.parts-p.ensures, c.next-s.ensures)
    (goes_on _ _ _ (lists l.keys l.xs l.ys l.zs l.phases) l.s l.holds l.i
    (omega arith) (omega arith) (omega arith) (omega arith) (omega arith) l.invariant)

pub returns : goal.returns
returns c =
    let l = c.loop-i in
    let e : l.i ≡ c.args.size = omega arith in
    rw e at (ends _ _ _ (lists l.keys l.xs l.ys l.zs l.phases) l.s l.holds l.i l.invariant)
