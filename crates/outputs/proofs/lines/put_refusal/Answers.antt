-- `outputs::lines::put_refusal`: the word and two numbers one behind the other.
use Rattle.std.proofs.Common.{rules}
use Rattle.formats.proofs.Writing.{written_three}
use Rattle.outputs.specs.Lines.{refused_line}
use Rattle.outputs.proofs.lines.put_refusal.Goals as goal

pub returns-clause-written : goal.returns-clause-written
unfolding refused_line
returns-clause-written c = written_three (search rules) c.put_text-first.ensures c.put_number-second.ensures.written c.put_number.ensures.written
