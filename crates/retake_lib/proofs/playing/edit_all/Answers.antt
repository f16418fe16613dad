-- `retake_lib::playing::edit_all` meets its contract: what is left to edit and to print is the rest of the whole (Left).
use Rattle.std.proofs.Common.{rules, arith}
use Rattle.retake_lib.proofs.Editing.{begins, goes_on, ends}
use Rattle.retake_lib.proofs.playing.edit_all.Goals as goal

pub loop-words-init : goal.loop-words-init
loop-words-init c = (search rules, search rules, begins _ _ _ _)

pub loop-words-preserved : goal.loop-words-preserved
loop-words-preserved c = (search rules, omega (arith, c.edit.ensures.len, c.loop-words.invariant.1), goes_on c.loop-words.invariant.2 (search rules) c.edit.ensures.done)

pub returns-clause-done : goal.returns-clause-done
returns-clause-done c = ends c.loop-words.invariant.2 (search rules)
