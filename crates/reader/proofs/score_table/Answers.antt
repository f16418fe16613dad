-- Each entry is that of its name.
use Rattle.reader.specs.Reading.{score_table}
use Rattle.reader.proofs.Settling.{five}
use Rattle.reader.proofs.score_table.Goals as goal

pub returns : goal.returns
unfolding score_table
returns c = five c.required.ensures c.required-2.ensures c.required-3.ensures c.required-4.ensures c.required-5.ensures
