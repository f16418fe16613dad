-- Document 01, "Rows, states, retakes" and number 9: the limits, which go by name, and the first row outside them.
use Rattle.std.specs.Prelude.{ℕ, zero, suc, Bool, true, ◌&&◌, ◌||◌, cond, List, [], ◌∷◌, take, drop, eqb, Float, Option, None, Some, option_map, Err}
use Rattle.std.specs.Float.{binary32}
use Rattle.std.specs.Float.Ieee.{of_bits, le}
use Rattle.words.specs.Binary32.{decimal}
use Rattle.score.specs.declared.refusal.Refusal.TheVariants.{Limit}
use Rattle.score.specs.Numbers.{Tested, accepted}
use Rattle.score.specs.Rows.{row_words, Name, note, timbre, morph, harmonics, restart, row_names, word_for}

-- "a float 0 to" the given one. IEEE 754's order: -0 equals 0, and NaN is in no order.
unfoldable pub float_to : Float → ℕ → Bool
float_to high w = le (decimal 0 0) (of_bits binary32 w) && le (of_bits binary32 w) high

-- "Limits by name: note a float 0 to 120; timbre, morph, harmonics 0 to 1; restart the whole number 0 or 1."
unfoldable pub limit : Name → ℕ → Bool
limit note w = float_to (decimal 120 0) w
limit timbre w = float_to (decimal 1 0) w
limit morph w = float_to (decimal 1 0) w
limit harmonics w = float_to (decimal 1 0) w
limit restart w = eqb w 0 || eqb w 1

-- Each of some names has its word of a row within its limit.
abbrev pub each_within : List Name → List ℕ → Bool
each_within [] row = true
each_within (name ∷ names) row = limit name (word_for name row) && each_within names row

-- The words of one row, in row order, are each within their name's limit.
unfoldable pub row_within : List ℕ → Bool
row_within row = each_within row_names row

-- "Place is the first bad row for 9": of n rows the first that is outside the limits, if there is one.
unfoldable pub first_bad : ℕ → List ℕ → Option ℕ
first_bad zero rows = None
first_bad (suc n) rows = cond (row_within (take row_words rows)) (option_map suc (first_bad n (drop row_words rows))) (Some 0)

-- 9, where `bad` is the first row that is outside the limits.
unfoldable pub bad_refusal : Option ℕ → Tested
bad_refusal None = accepted
bad_refusal (Some bad) = Err (Limit bad)

-- What 9 says of the first `count` rows.
unfoldable pub limit_refusal : ℕ → List ℕ → Tested
limit_refusal count rows = bad_refusal (first_bad count rows)
