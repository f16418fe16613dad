-- What is known of a position and of the lent words once an edit, an insertion or a removal is accepted.
use Rattle.std.specs.Prelude.{ℕ, ◌+◌, ◌≤◌, ◌<◌, List}
use Rattle.score.specs.Rows.{most_rows}
use Rattle.rows.specs.Rows.{Take}
use Rattle.runs.specs.Inner.{Holding}

pub record Retakable (frames n k : ℕ) (rows : List ℕ) (t : Take) : Type 0 where
  pub below : k < n
  pub holding : Holding frames n rows t

pub record Insertable (frames n p : ℕ) (rows : List ℕ) (t : Take) : Type 0 where
  pub positioned : p ≤ n
  pub few : n < most_rows
  pub holding : Holding frames (n + 1) rows t

pub record Removable (frames n p : ℕ) (rows : List ℕ) (t : Take) : Type 0 where
  pub some : 1 < n
  pub below : p < n
  pub holding : Holding frames n rows t
