-- The loop over the sines of aux, by the law of lent runs that a loop fills.
use Rattle.utils.proofs.Runs.{Filling}
use Rattle.wave_terrain_engine.specs.Stages.{stage_aux}
use Rattle.wave_terrain_engine.proofs.frames.finish.Given as goal

abbrev pub invariant-loop-i : goal.invariant-loop-i
invariant-loop-i l = Filling (stage_aux l.table l.phases) 0 l.initial.aux l.aux l.i
