-- `run` is `run_of`: the rows rendered so far and what is left make the whole (`Running`), in the places that were lent.
use Rattle.runs.proofs.Turns.{Running}
use Rattle.rows.specs.Rows.{setup_by, words_of, SamePlaces}
use Rattle.runs.proofs.run.Given as goal

abbrev pub invariant-loop-k : goal.invariant-loop-k
invariant-loop-k l =
    SamePlaces l.initial.take l.take × Running (setup_by l.patch) l.rows l.n l.from l.to (words_of l.initial.take) (words_of l.take) l.k l.end l.holds
