-- The laws of words and floats, both ways: a word that is no NaN's comes back from its float, and a float comes back from its word.
use Rattle.std.proofs.Common.{◌≡◌, not, ℕ, ◌<◌, T, Float}
use Rattle.std.specs.Float.Ieee.{binary32, fits, is_nan, of_bits, to_bits}
use Rattle.std.specs.Float.Ieee.Bits.{of_bits-to_bits, to_bits-of_bits}

pub word_back : (w : ℕ) → w < 4294967296 → T (not (is_nan (of_bits binary32 w))) → to_bits binary32 (of_bits binary32 w) ≡ w
word_back w h n = to_bits-of_bits binary32 w h n

pub float_back : (x : Float) → T (fits binary32 x) → of_bits binary32 (to_bits binary32 x) ≡ x
float_back x f = of_bits-to_bits binary32 x f
