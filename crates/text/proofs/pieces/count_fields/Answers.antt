-- As many fields as there are pieces.
use Rattle.std.proofs.Common.{rules, tests, arith, eqb}
use Rattle.std.proofs.lemmas.Iterator.Consumers.{count_from_yields_List}
use Rattle.std.proofs.lemmas.Iterator.Splits.{YieldsList-from_slice_split}
use Rattle.std.proofs.lemmas.List.Splits.{length-slice_split}
use Rattle.std.proofs.lemmas.List.Sums.{count_by-le-length}
use Rattle.text.specs.Text.{space, split}
use Rattle.text.proofs.pieces.count_fields.Goals as goal

pub returns : goal.returns
unfolding split
returns c =
    let s = c.split.ensures in
    let e = count_from_yields_List c.split.result _ c.count.ensures.ran
    (YieldsList-from_slice_split _ (λ b. eqb b space) c.args.line.now s.rest s.done s.closure (λ x b q k. search (rules, tests))) in
    (e, omega (arith, e, length-slice_split (λ b. eqb b space) c.args.line.now, count_by-le-length (λ b. eqb b space) c.args.line.now))
