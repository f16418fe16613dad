-- `outputs::lines::put_counts`: three numbers one behind the other.
use Rattle.std.proofs.Common.{rules}
use Rattle.formats.proofs.Writing.{written_three}
use Rattle.outputs.specs.Lines.{counts_line}
use Rattle.outputs.proofs.lines.put_counts.Goals as goal

pub returns-clause-written : goal.returns-clause-written
unfolding counts_line
returns-clause-written c = written_three (search rules) c.put_number-first.ensures.written c.put_number-second.ensures.written c.put_number.ensures.written
