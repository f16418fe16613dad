-- The loop that shifts the path and takes the layers, by the law of `Shifts`.
use Rattle.wave_terrain_engine.proofs.Shifts.{Shifting}
use Rattle.wave_terrain_engine.proofs.frames.shift.Given as goal

abbrev pub invariant-loop-i : goal.invariant-loop-i
invariant-loop-i l = Shifting l.top l.run l.initial.s l.initial.xs l.initial.layers l.initial.fractions l.xs l.layers l.fractions l.s l.i
