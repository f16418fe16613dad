-- Document 02, N3: whole parts "in the standard's order: sign, biased exponent, trailing significand". IEEE 754-2019, 3.4, binary32: precision p = 24, exponents up to emax = 127.
-- "Show for every word, by an equation in these three, what each whole part is, unsigned and to i32, NaN and saturation included, and that it is the same as before."
use Rattle.std.specs.Prelude.{ℕ, min, ◌+◌, ◌-◌, ◌*◌, ◌/◌, ◌%◌, ◌^◌, ◌<◌, ◌≡◌, Bool, true, not, ◌&&◌, ◌||◌, cond, ltb, leb, eqb, ℤ, pos, neg_ℤ, Float}
use Rattle.std.specs.Float.{binary32}
use Rattle.std.specs.Float.Ieee.{fits, to_bits, of_bits, to_unsigned, to_signed, of_int}
use Rattle.words.specs.Binary32.{◌⊖◌, of_count}
use Rattle.words.specs.Parts.{whole_float, whole_i32_float, part_of}

-- ---- the three fields of a word

-- The sign S: 1 bit, the first.
abbrev pub sign_of : ℕ → ℕ
sign_of word = word / 2 ^ 31

-- The biased exponent E, the exponent plus the bias: the next 8 bits.
abbrev pub biased_exponent : ℕ → ℕ
biased_exponent word = word / 2 ^ 23 % 2 ^ 8

-- The trailing significand field T: the last p - 1 = 23 bits.
abbrev pub trailing_significand : ℕ → ℕ
trailing_significand word = word % 2 ^ 23

-- ---- whole parts by the three fields

-- The bias, which is emax.
abbrev pub bias : ℕ
bias = 127

-- NaN: E is 2 ^ 8 - 1, and T is not 0. (With T = 0 it is an infinity.)
abbrev pub not_a_number : ℕ → ℕ → Bool
not_a_number E T = eqb E 255 && not (eqb T 0)

-- The magnitude of a normal number is 2 ^ (E - bias) times 1 + T / 2 ^ 23. So it is the significand 2 ^ 23 + T, its implicit leading bit put back, times 2 ^ (E - bias - 23).
-- Its whole part: up to E = bias + 23 that power divides, and what it does not divide is cut off; above, it multiplies. Where E is below the bias, as in zeros and subnormal numbers, the magnitude is below 1.
unfoldable pub whole_magnitude : ℕ → ℕ → ℕ
whole_magnitude E T =
    cond (ltb E bias) 0 (cond (leb E (bias + 23)) ((2 ^ 23 + T) / 2 ^ (bias + 23 - E)) ((2 ^ 23 + T) * 2 ^ (E - (bias + 23))))

-- Document 01's unsigned whole part: "NaN gives 0", "below 0 gives 0, saturates at 18446744073709551615". From E = bias + 64 on the magnitude is 2 ^ 64 or more, or infinite.
unfoldable pub unsigned_whole : ℕ → ℕ → ℕ → ℕ
unsigned_whole S E T = cond (eqb S 1 || not_a_number E T) 0 (cond (ltb E (bias + 64)) (whole_magnitude E T) (2 ^ 64 - 1))

-- A number with the sign S.
abbrev pub signed : ℕ → ℕ → ℤ
signed S n = cond (eqb S 1) (neg_ℤ (pos n)) (pos n)

-- Document 01's whole part to i32: "NaN gives 0", "saturates at both ends". From E = bias + 31 on the magnitude is 2 ^ 31 or more, or infinite, and the sign says which end it is.
unfoldable pub signed_whole : ℕ → ℕ → ℕ → ℤ
signed_whole S E T =
    cond (not_a_number E T) (pos 0) (cond (ltb E (bias + 31)) (signed S (whole_magnitude E T)) (cond (eqb S 1) (neg_ℤ (pos (2 ^ 31))) (pos (2 ^ 31 - 1))))

-- ---- the claim

-- Both whole parts by the fields of a word.
abbrev pub unsigned_of : ℕ → ℕ
unsigned_of word = unsigned_whole (sign_of word) (biased_exponent word) (trailing_significand word)

abbrev pub signed_of : ℕ → ℤ
signed_of word = signed_whole (sign_of word) (biased_exponent word) (trailing_significand word)

-- Of a float x and its word: the three fields make up the word, and each whole part that is taken of x anywhere, as the contracts have always said it, is the one by these.
pub record ByFields (x : Float) (word : ℕ) : Type 0 where
  pub made_up : word ≡ sign_of word * 2 ^ 31 + biased_exponent word * 2 ^ 23 + trailing_significand word
  pub unsigned : to_unsigned 64 x ≡ unsigned_of word
  pub to_i32 : to_signed 31 x ≡ signed_of word
  pub float : whole_float x ≡ of_count (unsigned_of word)
  pub i32_float : whole_i32_float x ≡ of_int binary32 (signed_of word)
  pub whole : (top : ℕ) → (part_of top x).whole ≡ min (unsigned_of word) top
  pub fraction : (top : ℕ) → (part_of top x).fraction ≡ x ⊖ of_count (min (unsigned_of word) top)
  pub held : (top : ℕ) → (part_of top x).held ≡ ltb top (unsigned_of word)

-- "Show for every word": of its float,
abbrev pub EveryWord : Type 0
EveryWord = (word : ℕ) → word < 2 ^ 32 → ByFields (of_bits binary32 word) word

-- and of every float that binary32 holds, by its word.
abbrev pub EveryFloat : Type 0
EveryFloat = (x : Float) → fits binary32 x ≡ true → ByFields x (to_bits binary32 x)
