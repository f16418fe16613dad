-- The digits so far at their places, and the word of those that are left.
use Rattle.std.proofs.Common.{arith}
use Rattle.text.proofs.Digits.{sums, next_digit, fits_on, sums_on, summed, word_small}
use Rattle.text.proofs.word.word_of.Goals as goal

pub loop-k-init : goal.loop-k-init
loop-k-init c = sums _ c.requires

pub digit-requires : goal.digit-requires
digit-requires c = next_digit _ _ _ c.loop-k-test.true c.loop-k.invariant

pub overflow_mul-word : goal.overflow_mul-word
overflow_mul-word c = omega (arith, c.loop-k.invariant.long, c.loop-k-test.true)

pub overflow_sub-word : goal.overflow_sub-word
overflow_sub-word c = omega (arith, c.loop-k.invariant.long, c.loop-k-test.true)

pub overflow_add-word : goal.overflow_add-word
overflow_add-word c =
    let small = word_small _ c.requires in
    rw c.digit.ensures (omega (arith, small, fits_on _ _ _ c.loop-k-test.true c.loop-k.invariant small))

pub loop-k-preserved : goal.loop-k-preserved
loop-k-preserved c = rw c.digit.ensures (sums_on _ _ _ c.loop-k-test.true c.loop-k.invariant (word_small _ c.requires))

pub returns : goal.returns
returns c = summed _ _ _ c.loop-k-test.false c.loop-k.invariant
