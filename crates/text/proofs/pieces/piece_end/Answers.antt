-- The first byte that cuts.
use Rattle.std.proofs.Common.{rules, tests, eqb}
use Rattle.std.proofs.lemmas.Iterator.{YieldsList-from_slice}
use Rattle.std.proofs.lemmas.Iterator.Search.{position_from_yields_List}
use Rattle.text.proofs.Split.{reach_found}
use Rattle.text.proofs.pieces.piece_end.Goals as goal

pub returns-clause-value : goal.returns-clause-value
returns-clause-value c =
    let a = c.args in
    reach_found a.cut a.text.now _
    (position_from_yields_List (λ b. eqb b a.cut) _ _ c.position.result c.position.ensures.ran (YieldsList-from_slice a.text.now c.iter.ensures.rest) (λ x b q k. search (rules, tests)))
