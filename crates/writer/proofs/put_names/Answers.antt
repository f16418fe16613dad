-- The names that the reader reads by, and an LF behind them.
use Rattle.std.proofs.Common.{sym, ◌∙◌}
use Rattle.writer.proofs.Lines.{names_spelt}
use Rattle.writer.proofs.put_names.Goals as goal

pub returns : goal.returns
returns c = c.copy_from_slice.ensures.after ∙ sym names_spelt
