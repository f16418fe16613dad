-- The words that are left decide.
use Rattle.std.proofs.Common.{◌≡◌, ◌+◌, ◌-◌}
use Rattle.values.specs.Lines.{holds_words}
use Rattle.values.specs.Inner.{first_line}
use Rattle.values.proofs.holds_words.Given as goal

abbrev pub invariant-loop : goal.invariant-loop
invariant-loop l = holds_words l.count (first_line l.text) ≡ holds_words (l.count + 1 - l.counter) (first_line l.rest)
