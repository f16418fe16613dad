-- The library's character of a digit.
use Rattle.std.proofs.Common.{◌∙◌}
use Rattle.text.proofs.LowerDigits.{char_of_digit}
use Rattle.text.proofs.word.lower_digit.Goals as goal

pub returns : goal.returns
returns c =
    let s = rw c.unwrap.ensures at c.from_digit.ensures.value in
    s.1 ∙ char_of_digit c.args.value
