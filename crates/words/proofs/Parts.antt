-- What a held part gives: its whole part is at most the top.
use Rattle.std.proofs.Common.{◌≡◌, sym, subst, ℕ, ◌≤◌, Float}
use Rattle.std.proofs.Math.Nat.{min-le_right}
use Rattle.words.specs.declared.Part.{Part}
use Rattle.words.specs.Parts.{part_of, whole_part}

pub held_most : (top : ℕ) (x : Float) → (part_of top x).whole ≤ top
unfolding part_of
held_most top x = min-le_right (whole_part x) top

pub part_most : (r : Part) (top : ℕ) (x : Float) → r ≡ part_of top x → r.whole ≤ top
part_most r top x e = subst (λ (p : Part). p.whole ≤ top) (sym e) (held_most top x)
