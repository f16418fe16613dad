-- `take_out` is an accepted removal: its row taken out, the places closed, its test and its run.
use Rattle.std.proofs.Common.{rules, sym, ◌∙◌, arith}
use Rattle.rows.proofs.Ending.{not_the_end}
use Rattle.take.proofs.Calls.{holding_still, fewer_holding, remove_idles, remove_does}
use Rattle.take.proofs.take_out.Goals as goal

pub returns-then-stops-clause-done : goal.returns-then-stops-clause-done
returns-then-stops-clause-done c =
    remove_idles _ _ _ _ _ _ c.keeps_its_state-same.ensures _ c.remove_row.ensures _ c.close_room.ensures.closed _ c.stops.ensures c.if-stops.true _ (search rules)

pub run-requires : goal.run-requires
run-requires c =
    let left = fewer_holding _ _ _ _ (holding_still _ _ _ _ _ _ c.remove_row.auto.rows c.close_room.ensures.lengths c.requires.removable.holding) in
    record {
      lent = c.requires.lent;
      holding = left;
      from_lt_to = (omega arith, omega (arith, c.requires.removable.below, not_the_end _ _ _ _ (sym c.stops.ensures ∙ c.if-stops.false)));
    }

pub returns-clause-done : goal.returns-clause-done
returns-clause-done c =
    remove_does _ _ _ _ _ _ c.keeps_its_state-same.ensures _ c.remove_row.ensures _ c.close_room.ensures.closed _ c.stops.ensures c.if-stops.false _ _ c.run.ensures.done
