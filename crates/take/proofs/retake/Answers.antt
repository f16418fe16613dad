-- `retake` is an accepted edit: nothing where the words are equal, else the row put in its place and its run.
use Rattle.std.proofs.Common.{rules, refl, sym, ◌∙◌, arith}
use Rattle.take.proofs.Calls.{holding_still, edit_idles, edit_does}
use Rattle.take.proofs.retake.Goals as goal

pub returns-then-same_row-clause-done : goal.returns-then-same_row-clause-done
returns-then-same_row-clause-done c =
    edit_idles _ _ _ _ _ c.args.row (omega arith) _ (sym c.same_row.ensures ∙ c.if-same_row.true) (search rules)

pub run-requires : goal.run-requires
run-requires c =
    record {
      lent = c.requires.lent;
      holding = holding_still _ _ _ _ _ _ c.put_row.auto.rows (record { out_long = refl; aux_long = refl; kept_long = refl }) c.requires.retakable.holding;
      from_lt_to = (omega arith, omega (arith, c.requires.retakable.below));
    }

pub returns-clause-done : goal.returns-clause-done
returns-clause-done c =
    edit_does _ _ _ _ _ _ _ _ _ (sym c.same_row.ensures ∙ c.if-same_row.false) c.put_row.ensures c.run.ensures.done
