-- A run stops at the end at the latest.
use Rattle.std.proofs.Common.{◌≡◌, sym, ◌∙◌, List, Bool, false, true≢false, ℕ, eq-eqb}
use Rattle.rows.specs.Rows.{stops_of}

pub not_the_end : (n : ℕ) (rows : List ℕ) (j : ℕ) (unchanged : Bool) → stops_of n rows j unchanged ≡ false → j ≡ n → ⊥
unfolding stops_of
not_the_end n rows j unchanged e q = true≢false (sym (rw (eq-eqb j n q)) ∙ e)
