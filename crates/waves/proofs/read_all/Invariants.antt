-- The readings' loop: one more frame's corners are stored (Stored).
use Rattle.waves.specs.Stages.{CornersRead}
use Rattle.waves.proofs.read_all.Given as goal

abbrev pub invariant-loop-i : goal.invariant-loop-i
invariant-loop-i l = CornersRead l.bank l.keys l.phases l.corners l.i
