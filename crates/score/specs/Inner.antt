-- Rows as the search for a bad one goes through them.
use Rattle.std.specs.Prelude.{ℕ, zero, suc, ◌*◌, cond, List, take, drop, Err}
use Rattle.std.specs.Result.{result_and}
use Rattle.score.specs.declared.refusal.Refusal.TheVariants.{Limit}
use Rattle.score.specs.Numbers.{Tested, accepted}
use Rattle.score.specs.Rows.{row_words}
use Rattle.score.specs.Limits.{row_within}

-- The words of the first k rows.
abbrev pub front : List ℕ → ℕ → List ℕ
front rows k = take (k * row_words) rows

-- The words of so many rows, from row k on.
abbrev pub rows_from : List ℕ → ℕ → ℕ → List ℕ
rows_from rows k count = take (count * row_words) (drop (k * row_words) rows)

-- What 9 says of a row that is row k of a score.
abbrev pub row_refusal : ℕ → List ℕ → Tested
row_refusal k row = cond (row_within row) accepted (Err (Limit k))

-- What 9 says of so many rows, the first of which is row `first` of a score.
unfoldable pub refused_from : ℕ → ℕ → List ℕ → Tested
refused_from first zero rows = accepted
refused_from first (suc n) rows = result_and (row_refusal first (take row_words rows)) (refused_from (suc first) n (drop row_words rows))
