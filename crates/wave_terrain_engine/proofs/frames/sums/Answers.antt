-- The loop over the sums of two oversamples, by the law of lent runs that a loop fills.
use Rattle.std.proofs.Common.{◌∙◌, arith}
use Rattle.utils.proofs.Runs.{filling_more}
use Rattle.wave_terrain_engine.proofs.frames.sums.Goals as goal

pub loop-i-preserved : goal.loop-i-preserved
loop-i-preserved c =
    let inv = c.loop-i.invariant in
    let z = c.between_at-z.ensures in
    let z-2 = c.between_at-z_2.ensures in
    record {
      phases = filling_more _ _ _ _ _ _ (omega arith) (c.aux_phase.ensures ∙ rw (z, z-2)) inv.phases;
      words = filling_more _ _ _ _ _ _ (omega arith) (c.to_word.ensures ∙ rw (c.out_sample.ensures, z, z-2)) inv.words;
    }
