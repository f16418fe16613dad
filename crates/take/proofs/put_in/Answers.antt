-- `put_in` is an accepted insertion: its row put between, its place made, and its run.
use Rattle.std.proofs.Common.{arith}
use Rattle.take.proofs.Calls.{holding_still, insert_does}
use Rattle.take.proofs.put_in.Goals as goal

pub run-requires : goal.run-requires
run-requires c =
    record {
      lent = c.requires.lent;
      holding = holding_still _ _ _ _ _ _ c.insert_row.auto.rows c.make_room.ensures.lengths c.requires.insertable.holding;
      from_lt_to = (omega arith, omega (arith, c.requires.insertable.positioned));
    }

pub returns-clause-done : goal.returns-clause-done
returns-clause-done c =
    insert_does _ _ _ _ _ _ _ _ _ _ c.insert_row.ensures c.make_room.ensures.room c.run.ensures.done
