-- The bytes that are left decide.
use Rattle.std.proofs.Common.{refl, eq-eqb, ne_eqb, drop_of_length-le}
use Rattle.lists.proofs.Cases.{and_true}
use Rattle.text.specs.Text.{each_digit, is_word}
use Rattle.text.proofs.Digits.{each_on}
use Rattle.text.proofs.word.is_word.Goals as goal

pub returns-then-field-ne-WORD_DIGITS : goal.returns-then-field-ne-WORD_DIGITS
unfolding is_word
returns-then-field-ne-WORD_DIGITS c = rw (ne_eqb _ _ c.if-field-ne-WORD_DIGITS.true)

pub loop-byte-init : goal.loop-byte-init
loop-byte-init c = refl

pub loop-byte-preserved : goal.loop-byte-preserved
loop-byte-preserved c = rw c.is_ascii_hexdigit-digits.ensures.value (each_on c.args.field.now _ c.loop-byte.digits c.loop-byte-test.true c.loop-byte.invariant)

pub returns : goal.returns
unfolding is_word each_digit
returns c =
    let l = rw (drop_of_length-le c.args.field.now {i = c.loop-byte.byte-index} c.loop-byte-test.false, and_true) at c.loop-byte.invariant in
    rw (eq-eqb _ _ c.if-field-ne-WORD_DIGITS.false) l
