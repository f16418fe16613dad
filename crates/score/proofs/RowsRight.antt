-- What 6 lets through: a count within its bounds, and row words for it.
use Rattle.std.proofs.Common.{◌≡◌, false, ℕ, ◌*◌, ◌≤◌, ltb-false}
use Rattle.lists.proofs.Cases.{neither}
use Rattle.score.specs.Rows.{row_words, wrong_rows}

pub record RowsRight (least largest n rows : ℕ) : Type 0 where
  pub count_least : least ≤ n
  pub count_most : n ≤ largest
  pub rows_room : n * row_words ≤ rows

pub rows_right : (least largest n rows : ℕ) → wrong_rows least largest n rows ≡ false → RowsRight least largest n rows
rows_right least largest n rows e =
    let a = neither _ _ e in
    let b = neither _ _ a.1 in
    record { count_least = ltb-false n least a.0; count_most = ltb-false largest n b.0; rows_room = ltb-false rows (n * row_words) b.1 }
