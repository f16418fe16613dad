-- The digits so far at their places, and the word of those that are left.
use Rattle.text.proofs.Digits.{Summed}
use Rattle.text.proofs.word.word_of.Given as goal

abbrev pub invariant-loop-k : goal.invariant-loop-k
invariant-loop-k l = Summed l.field l.word l.k
