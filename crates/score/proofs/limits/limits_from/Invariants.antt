-- What is refused of the rows passed and of those left is what is refused of all.
use Rattle.std.proofs.Common.{◌≡◌, ◌+◌, ◌-◌, ◌*◌, drop}
use Rattle.score.specs.Rows.{row_words}
use Rattle.score.specs.Inner.{refused_from}
use Rattle.score.proofs.limits.limits_from.Given as goal

abbrev pub invariant-loop-k : goal.invariant-loop-k
invariant-loop-k l = refused_from l.first l.count l.rows ≡ refused_from (l.first + l.k) (l.count - l.k) (drop (l.k * row_words) l.rows)
