-- The loop over the heights of a layer, by the law of lent runs that a loop fills and the law of counts.
use Rattle.std.proofs.Common.{◌≡◌, suc}
use Rattle.std.specs.Float.{nan}
use Rattle.utils.specs.Holds.{AtMost}
use Rattle.utils.specs.Frames.{sum_of}
use Rattle.utils.proofs.Runs.{Filling}
use Rattle.wave_terrain_engine.specs.Stages.{stage_height}
use Rattle.wave_terrain_engine.proofs.frames.heights.Given as goal

abbrev pub invariant-loop-j : goal.invariant-loop-j
invariant-loop-j l =
    record {
      few : AtMost l.j l.holds;
      counted : l.holds ≡ sum_of suc (λ j. (stage_height l.ground l.xs l.ys l.layers l.up j).holds) l.j 0;
      heights : Filling (λ j. (stage_height l.ground l.xs l.ys l.layers l.up j).value) nan l.initial.zs l.zs l.j;
    }
