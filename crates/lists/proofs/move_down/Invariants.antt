-- `move_down` moves the words a chunk at a time (`MovedDown`).
use Rattle.std.proofs.Common.{◌-◌}
use Rattle.lists.proofs.Moving.{MovedDown}
use Rattle.lists.proofs.move_down.Given as goal

abbrev pub invariant-loop-at : goal.invariant-loop-at
invariant-loop-at l = MovedDown l.initial.words l.words l.from l.end l.by l.at

abbrev pub decreases-loop-at : goal.decreases-loop-at
decreases-loop-at l = l.end - l.at
