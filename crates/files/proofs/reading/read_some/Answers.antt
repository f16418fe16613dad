-- `files::reading::read_some`: past the part that is lent nothing changes (past_stays).
use Rattle.std.proofs.Common.{rules}
use Rattle.files.proofs.Came.{past_stays}
use Rattle.files.proofs.reading.read_some.Goals as goal

pub returns-clause-past : goal.returns-clause-past
returns-clause-past g c = past_stays c.args.bytes.now c.read.new.buf c.args.at _ _ (search rules) (search rules) (search rules)
