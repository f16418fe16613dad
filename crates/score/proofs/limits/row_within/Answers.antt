-- `row_within` tests each word by its name's limit: the limits' words are those of 120 and 1.
use Rattle.score.proofs.Within.{row_words_lem}
use Rattle.score.proofs.limits.row_within.Goals as goal

pub returns : goal.returns
returns c =
    let last = c.float_to-4.ensures in
    let third = c.float_to-3.ensures in
    let second = c.float_to-2.ensures in
    let first = c.float_to.ensures in
    rw (last, third, second, first) (row_words_lem _)
