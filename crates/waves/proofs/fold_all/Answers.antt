-- The folds' loop, by the law of lent runs that a loop fills.
use Rattle.std.proofs.Common.{◌∙◌, arith}
use Rattle.utils.proofs.Runs.{filling_more}
use Rattle.waves.proofs.fold_all.Goals as goal

pub loop-i-preserved : goal.loop-i-preserved
loop-i-preserved c =
    let y = c.fold_y.ensures in
    let x = c.fold_x.ensures in
    let corners = c.load-c.ensures in
    filling_more _ _ _ _ _ _ (omega arith) (c.fold_z.ensures ∙ rw (y, x, corners)) c.loop-i.invariant
