-- Document 01, "The program `retake`": decimal numbers, and words and samples as bytes, "low byte first".
use Rattle.std.specs.Prelude.{ℕ, ◌+◌, ◌≡◌, List, [], ◌∷◌, ℤ, length, flat_map}
use Rattle.std.specs.Int.{w16, w32, cast_signed, to_le_bytes, from_le_bytes}
use Rattle.lists.specs.Lists.{put}

-- A text was put into lent bytes from byte `at` on, and where it ends.
pub record Written (text before : List ℕ) (at : ℕ) (now : List ℕ) (end : ℕ) : Type 0 where
  pub put_in : now ≡ put before at text
  pub end_is : end ≡ at + length text

-- A number is at most 18446744073709551615, which has 20 digits.
abbrev pub most_digits : ℕ
most_digits = 20

-- The four bytes of each word.
unfoldable pub low_first : List ℕ → List ℕ
low_first words = flat_map (to_le_bytes w32) words

-- The i16 of each two bytes.
unfoldable pub samples_of : List ℕ → List ℤ
samples_of [] = []
samples_of (low ∷ []) = []
samples_of (low ∷ high ∷ bytes) = cast_signed w16 (from_le_bytes w16 (low ∷ high ∷ [])) ∷ samples_of bytes
