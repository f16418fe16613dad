-- `words::whole` meets its contract: the equation by fields is the whole part (of_float).
use Rattle.std.proofs.Common.{sym, ◌∙◌}
use Rattle.std.specs.Bool.{passes}
use Rattle.words.proofs.ByFields.{of_float}
use Rattle.words.proofs.whole.Goals as goal

pub returns : goal.returns
returns c =
    c.unsigned_whole.ensures
    ∙ rw (c.from.ensures.0, c.from.ensures.1.0, c.from.ensures.1.1, c.to_word.ensures)
    (sym (of_float c.args.x (passes _ c.well_formed.0.1)).unsigned)
