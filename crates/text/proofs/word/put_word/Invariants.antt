-- The digits that are left and those put are the field.
use Rattle.std.proofs.Common.{◌≡◌, ◌++◌, length, drop}
use Rattle.text.specs.Text.{word_digits, lower_digits, field_of}
use Rattle.text.proofs.word.put_word.Given as goal

abbrev pub invariant-loop-k : goal.invariant-loop-k
invariant-loop-k l = record { long : length l.text ≡ word_digits; put : lower_digits l.k l.left ++ drop l.k l.text ≡ field_of l.word }
