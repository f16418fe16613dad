-- Document 01, the head: IEEE 754's binary32, each operation rounded once to nearest, ties to even, and decimal literals too.
-- Names for the operations of `Rattle.std.specs.Float.Ieee` at this format, in the circles that mark a rounded operation.
use Rattle.std.specs.Prelude.{ℕ, ◌^◌, false, pos, Float}
use Rattle.std.specs.Float.{binary32}
use Rattle.std.specs.Float.Ieee.{add, sub, mul, div, round, of_int}
unfoldable pub use Rattle.std.specs.Float.Ieee.{of_bits}

infixl 65 ◌⊕◌
infixl 65 ◌⊖◌
infixl 70 ◌⊗◌
infixl 70 ◌⊘◌
-- The sum, rounded.
abbrev pub ◌⊕◌ : Float → Float → Float
x ⊕ y = add binary32 x y

-- The difference, rounded.
abbrev pub ◌⊖◌ : Float → Float → Float
x ⊖ y = sub binary32 x y

-- The product, rounded.
abbrev pub ◌⊗◌ : Float → Float → Float
x ⊗ y = mul binary32 x y

-- The quotient, rounded.
abbrev pub ◌⊘◌ : Float → Float → Float
x ⊘ y = div binary32 x y

-- A float literal of the source, the decimal m / 10 ^ k, rounded: 0.637 is `decimal 637 3`.
unfoldable pub decimal : ℕ → ℕ → Float
unfolding round
decimal m k = round binary32 false m (10 ^ k)

-- A whole number as a float, rounded.
abbrev pub of_count : ℕ → Float
of_count n = of_int binary32 (pos n)
