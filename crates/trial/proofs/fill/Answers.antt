-- One entry more of the series, by the law of the series (Series).
use Rattle.std.proofs.Common.{refl, arith}
use Rattle.std.proofs.lemmas.Grind.{common_steps}
use Rattle.trial.specs.Trial.{numbers, number_after}
use Rattle.trial.proofs.Series.{number_after-more, numbers-more}
use Rattle.trial.proofs.fill.Goals as goal

pub loop-entry-init : goal.loop-entry-init
unfolding numbers number_after
loop-entry-init g c = (refl, refl)

pub loop-entry-preserved : goal.loop-entry-preserved
loop-entry-preserved g c = (grind (arith, common_steps, number_after-more), grind (arith, common_steps, numbers-more, c.drawn.ensures))
