use Rattle.std.proofs.Common.{◌≡◌, take}
use Rattle.trial.specs.Trial.{numbers, number_after}
use Rattle.trial.proofs.fill.Given as goal

abbrev pub invariant-loop-entry : goal.invariant-loop-entry
invariant-loop-entry g l =
    (l.s ≡ number_after l.entry-index l.seed) × (take l.entry-index l.entries ≡ numbers g.T.Drawn.drawn_of l.entry-index l.seed)
