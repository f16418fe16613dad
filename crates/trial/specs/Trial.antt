-- What the test programs fill banks and maps with, and the number that tells one run from another.
use Rattle.std.specs.Prelude.{ℕ, zero, suc, ◌+◌, ◌*◌, ◌/◌, ◌%◌, List, [], ◌∷◌, ℤ, pos, ◌-ℤ◌, fold}

-- The series: s = 1664525 s + 1013904223 mod 2^32.
abbrev pub next_of : ℕ → ℕ
next_of s = (s * 1664525 + 1013904223) % 4294967296

-- The n numbers behind s, each by f, and the number that the series has come to.
unfoldable pub numbers : {A : Type 0} → (ℕ → A) → ℕ → ℕ → List A
numbers f zero s = []
numbers f (suc n) s = f (next_of s) ∷ numbers f n (next_of s)

unfoldable pub number_after : ℕ → ℕ → ℕ
number_after zero s = s
number_after (suc n) s = number_after n (next_of s)

-- The highest byte of a number, and its upper half less 32,768.
abbrev pub high_byte : ℕ → ℕ
high_byte s = s / 16777216

abbrev pub sample_of : ℕ → ℤ
sample_of s = pos (s / 65536) -ℤ pos 32768

-- The check number of a run, word by word: h = 65599 h + word mod 4294967291.
abbrev pub mixed_of : ℕ → ℕ → ℕ
mixed_of h w = (65599 * h + w) % 4294967291

abbrev pub sum_of : List ℕ → ℕ
sum_of words = fold mixed_of 0 words
