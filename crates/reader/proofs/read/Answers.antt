-- The table of the five names.
use Rattle.std.proofs.Common.{◌∙◌, ap, true}
use Rattle.reader.specs.Reading.{read_text, read_of}
use Rattle.reader.proofs.read.Goals as goal

pub returns : goal.returns
unfolding read_of
returns c = c.read_text.ensures ∙ ap (λ t. read_text true t c.args.text.now c.args.rows.now) c.score_table.ensures
