-- `helpers_c::helper_answers` meets its contract.
use Rattle.std.proofs.Common.{rules, ap, ◌∙◌, arith}
use Rattle.helpers_c.specs.Helpers.{answer_at}
use Rattle.helpers_c.proofs.Answers.{begins, goes_on, ends}
use Rattle.helpers_c.proofs.helper_answers.Goals as goal

pub loop-place-init : goal.loop-place-init
loop-place-init c = begins _ _ _

pub loop-place-preserved : goal.loop-place-preserved
loop-place-preserved c =
    let l = c.loop-place in
    goes_on _ _ l.answers l.w l.place-index _ _ (search rules) (c.answer.ensures ∙ ap (answer_at _) c.of_word.ensures) (search rules) l.invariant

pub returns : goal.returns
returns c = ends _ _ _ c.loop-place.answers _ _ (search rules) (omega arith) c.loop-place.invariant
