-- `move_down` moves the words a chunk at a time (`MovedDown`).
use Rattle.std.proofs.Common.{arith}
use Rattle.lists.proofs.Moving.{down_none, down_more, down_all}
use Rattle.lists.proofs.move_down.Goals as goal

pub loop-at-init : goal.loop-at-init
loop-at-init c = down_none _ _ _ _ c.requires.1.0

pub loop-at-preserved : goal.loop-at-preserved
loop-at-preserved c =
    let pre = c.requires in
    rw c.move_chunk.ensures (down_more _ _ _ _ _ _ _ pre.0 pre.1.1 (omega arith) c.loop-at.invariant)

pub returns : goal.returns
returns c = down_all _ _ _ _ _ _ (omega arith) c.loop-at.invariant
