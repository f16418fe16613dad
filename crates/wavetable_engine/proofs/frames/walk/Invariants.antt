-- The walk's loop, by the law that a walk goes on (Walking).
use Rattle.wavetable_engine.proofs.Walking.{lists, Walking}
use Rattle.wavetable_engine.proofs.frames.walk.Given as goal

abbrev pub invariant-loop-i : goal.invariant-loop-i
invariant-loop-i l =
    let before = lists l.initial.keys l.initial.xs l.initial.ys l.initial.zs l.initial.phases in
    Walking l.lp_coefficient l.initial.s before (lists l.keys l.xs l.ys l.zs l.phases) l.s l.holds l.i
