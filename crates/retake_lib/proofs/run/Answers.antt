-- `retake_lib::run` meets its contract: the program goes by what was read, to a refusal or to what is played, and prints text (printed_text).
use Rattle.std.proofs.Common.{sym}
use Rattle.inputs.proofs.Texts.{taken}
use Rattle.retake_lib.specs.Program.{program, output_of}
use Rattle.retake_lib.proofs.Texts.{printed_text}
use Rattle.retake_lib.proofs.run.Goals as goal

pub play-requires-clause-bank_len : goal.play-requires-clause-bank_len
play-requires-clause-bank_len c = (taken _ _ _ _ (sym c.in-Ok.ensures.value)).bank_long

pub returns-clause-output : goal.returns-clause-output
unfolding program output_of
returns-clause-output c = rw (sym c.read.ensures.value, c.in-Ok.is) c.play.ensures

pub returns-clause-text : goal.returns-clause-text
returns-clause-text c = printed_text _ _ _ _ (returns-clause-output c)

pub returns-in-Err-clause-output : goal.returns-in-Err-clause-output
unfolding program output_of
returns-in-Err-clause-output c = rw (sym c.read.ensures.value, c.in-Err.is) c.turned.ensures

pub returns-in-Err-clause-text : goal.returns-in-Err-clause-text
returns-in-Err-clause-text c = printed_text _ _ _ _ (returns-in-Err-clause-output c)
