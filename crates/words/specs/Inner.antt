-- What inner functions promise each other.
use Rattle.std.specs.Prelude.{ℕ, ◌*◌, ◌≤◌, ◌<◌, ◌≡◌, false, ℤ, Float}
use Rattle.std.specs.Float.{fin}
use Rattle.std.specs.Float.Ieee.{up, down}
use Rattle.words.specs.Binary32.{decimal}

-- A half.
abbrev pub half : Float
half = decimal 5 1

-- A float from a half to below 2 to the power 23.
pub record Small (x : Float) : Type 0 where
  pub digits : ℕ
  pub exponent : ℤ
  pub is : x ≡ fin false digits exponent
  pub least : down exponent ≤ digits * up exponent * 2
  pub below : digits * up exponent < 8388608 * down exponent
