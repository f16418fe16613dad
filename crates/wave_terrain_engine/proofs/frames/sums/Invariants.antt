-- The loop over the sums of two oversamples, by the law of lent runs that a loop fills.
use Rattle.std.specs.Float.{nan}
use Rattle.utils.proofs.Runs.{Filling}
use Rattle.wave_terrain_engine.specs.Stages.{stage_phase, stage_out}
use Rattle.wave_terrain_engine.proofs.frames.sums.Given as goal

abbrev pub invariant-loop-i : goal.invariant-loop-i
invariant-loop-i l =
    record {
      phases : Filling (stage_phase l.ys l.fractions l.z0s l.z1s) nan l.initial.phases l.phases l.i;
      words : Filling (stage_out l.ys l.fractions l.z0s l.z1s) 0 l.initial.out l.out l.i;
    }
