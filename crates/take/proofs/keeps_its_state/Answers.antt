-- `keeps_its_state` compares the words before the next row with those before the row.
use Rattle.score.proofs.Same.{same_is}
use Rattle.take.proofs.keeps_its_state.Goals as goal

pub returns : goal.returns
returns c = rw (c.eq.ensures, c.words_before.ensures, c.words_before-2.ensures) (same_is _ _)
