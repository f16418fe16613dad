-- `text::word::digit` meets its contract, by cases of the digit.
use Rattle.text.proofs.Digits.{value_of_digit}
use Rattle.text.proofs.word.digit.Goals as goal

pub returns : goal.returns
returns c = (value_of_digit c.args.byte c.requires).0
