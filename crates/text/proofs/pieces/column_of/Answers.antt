-- The first field that is the name.
use Rattle.std.proofs.Common.{rules, tests, eqb}
use Rattle.std.proofs.lemmas.Iterator.Search.{position_from_yields_List}
use Rattle.std.proofs.lemmas.Iterator.Splits.{YieldsList-from_slice_split}
use Rattle.lists.specs.Lists.{same}
use Rattle.lists.proofs.Copying.{same_by}
use Rattle.text.specs.Text.{space, split, column_of}
use Rattle.text.proofs.pieces.column_of.Goals as goal

pub returns : goal.returns
unfolding split column_of
returns c =
    let s = c.split.ensures in
    position_from_yields_List (same c.args.name.now) _ _ c.position.result c.position.ensures.ran
    (YieldsList-from_slice_split _ (λ b. eqb b space) c.args.line.now s.rest s.done s.closure (λ x b q k. search (rules, tests)))
    (λ x b q k. (search rules, same_by b _ _ (search rules)))
