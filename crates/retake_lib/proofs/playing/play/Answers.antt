-- `retake_lib::playing::play` meets its contract: the samples are those of the bank's bytes.
use Rattle.retake_lib.proofs.playing.play.Goals as goal

pub returns : goal.returns
returns c = rw c.samples_of.ensures at c.play_rows.ensures
