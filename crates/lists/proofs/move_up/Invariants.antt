-- `move_up` moves the words a chunk at a time (`MovedUp`).
use Rattle.std.proofs.Common.{◌-◌}
use Rattle.lists.proofs.Moving.{MovedUp}
use Rattle.lists.proofs.move_up.Given as goal

abbrev pub invariant-loop-at : goal.invariant-loop-at
invariant-loop-at l = MovedUp l.initial.words l.words l.from l.end l.by l.at

abbrev pub decreases-loop-at : goal.decreases-loop-at
decreases-loop-at l = l.at - l.from
