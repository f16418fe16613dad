-- The loop that shifts the path and takes the layers, by the law of `Shifts`.
use Rattle.std.proofs.Common.{arith}
use Rattle.wave_terrain_engine.proofs.Shifts.{shifting_none, shifting_more}
use Rattle.wave_terrain_engine.proofs.frames.shift.Goals as goal

pub loop-i-init : goal.loop-i-init
loop-i-init c = shifting_none _ _ _ _ _ _

pub loop-i-preserved : goal.loop-i-preserved
loop-i-preserved c =
    shifting_more _ _ _ _ _ _ _ _ _ _ _ _ _ _ _
    c.next-s.ensures
    c.shifted_x.ensures
    c.shifted_x-in-loop-i.ensures
    c.held_part-layer.ensures
    (omega arith)
    (omega arith)
    (omega arith)
    c.loop-i.invariant
