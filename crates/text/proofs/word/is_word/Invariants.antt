-- The bytes that are left decide.
use Rattle.std.proofs.Common.{◌≡◌, ◌&&◌, drop}
use Rattle.text.specs.Text.{each_digit}
use Rattle.text.proofs.word.is_word.Given as goal

abbrev pub invariant-loop-byte : goal.invariant-loop-byte
invariant-loop-byte l = l.digits && each_digit (drop l.byte-index l.field) ≡ each_digit l.field
