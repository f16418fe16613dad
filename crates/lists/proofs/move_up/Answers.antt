-- `move_up` moves the words a chunk at a time (`MovedUp`).
use Rattle.std.proofs.Common.{arith}
use Rattle.lists.proofs.Moving.{up_none, up_more, up_all}
use Rattle.lists.proofs.move_up.Goals as goal

pub loop-at-init : goal.loop-at-init
loop-at-init c = up_none _ _ _ _ c.requires.0

pub loop-at-preserved : goal.loop-at-preserved
loop-at-preserved c =
    let l = c.loop-at.invariant in
    rw c.move_chunk.ensures (up_more _ _ _ _ _ _ _ c.requires.1 (omega (arith, l.since)) l)

pub returns : goal.returns
returns c = up_all _ _ _ _ _ _ (omega arith) c.loop-at.invariant
