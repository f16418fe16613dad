-- `score::limits::float_to` meets its contract, by the order of words.
use Rattle.score.proofs.Within.{float_to_word}
use Rattle.score.proofs.limits.float_to.Goals as goal

pub returns : goal.returns
returns c = rw (c.plain.ensures, float_to_word _ _ c.requires c.ranges.w.fits)
