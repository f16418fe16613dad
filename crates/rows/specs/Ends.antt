-- What the code of a run asks before each row, in numbers.
use Rattle.std.specs.Prelude.{ℕ, ◌+◌, List, Bool, cond, eqb, Option, None, Some}
use Rattle.rows.specs.Rows.{stops_of}

-- Where a stretch that ended before row e ends once row j of n is reached, told whether the words kept before it are as they were: nowhere where
-- the run stops.
unfoldable pub end_of : ℕ → List ℕ → ℕ → ℕ → Bool → Option ℕ
end_of n rows j e unchanged = cond (eqb j e) (cond (stops_of n rows j unchanged) None (Some (j + 1))) (Some e)
