-- `outputs::lines::put_number`: the digits and the text one behind the other.
use Rattle.std.proofs.Common.{rules}
use Rattle.formats.proofs.Writing.{written_more}
use Rattle.outputs.proofs.lines.put_number.Goals as goal

pub returns-clause-written : goal.returns-clause-written
returns-clause-written c = written_more (search rules) c.put_decimal-behind.ensures.written c.put_text.ensures
