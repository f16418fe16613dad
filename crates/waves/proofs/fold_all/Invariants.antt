-- The folds' loop, by the law of lent runs that a loop fills.
use Rattle.std.specs.Float.{nan}
use Rattle.waves.specs.Stages.{mix_at}
use Rattle.utils.proofs.Runs.{Filling}
use Rattle.waves.proofs.fold_all.Given as goal

abbrev pub invariant-loop-i : goal.invariant-loop-i
invariant-loop-i l = Filling (mix_at l.xs l.ys l.zs l.corners) nan l.initial.mixes l.mixes l.i
