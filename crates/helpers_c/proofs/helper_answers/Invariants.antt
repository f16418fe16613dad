-- `helpers_c::helper_answers` meets its contract.
use Rattle.helpers_c.proofs.Answers.{Going}
use Rattle.helpers_c.proofs.helper_answers.Given as goal

abbrev pub invariant-loop-place : goal.invariant-loop-place
invariant-loop-place l = Going l.which l.from l.answers l.w l.place-index
