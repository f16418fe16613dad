-- Document 01, "Bench values", of whole parts, computed.
use Rattle.std.proofs.Common.{◌≡◌, refl, false, pos, negsuc}
use Rattle.std.specs.Float.Ieee.{nan, fin, binary32, neg, to_unsigned, to_signed, of_int}
use Rattle.words.specs.Binary32.{decimal, of_count}
use Rattle.words.specs.Parts.{whole_part, whole_float, whole_i32_float}
use Rattle.words.specs.Fields.{sign_of, biased_exponent, trailing_significand, whole_magnitude, unsigned_whole, signed_whole, unsigned_of, signed_of}

-- "whole part of 2.75 is 2"
whole-of-2·75 : whole_part (decimal 275 2) ≡ 2
unfolding to_unsigned decimal
whole-of-2·75 = refl

-- "of -0.5 is +0", unsigned and to i32, back as a float
whole_of_minus_half : whole_float (neg (decimal 5 1)) ≡ decimal 0 0
unfolding to_unsigned of_int neg decimal
whole_of_minus_half = refl

i32_of_minus_half : whole_i32_float (neg (decimal 5 1)) ≡ decimal 0 0
unfolding to_signed of_int neg decimal
i32_of_minus_half = refl

-- "of NaN 0"
whole_of_nan : whole_part nan ≡ 0
unfolding to_unsigned
whole_of_nan = refl

-- "of 3e9 to i32 2147483647"
i32_of_3e9 : to_signed 31 (decimal 3000000000 0) ≡ pos 2147483647
unfolding to_signed decimal
i32_of_3e9 = refl

-- 18446744073709551615 "as a float is 2 to the power 64", and "2147483647 becomes 2147483648"
most_as_float : of_count 18446744073709551615 ≡ fin false 1 (pos 64)
unfolding of_int
most_as_float = refl

i32_most_as_float : of_int binary32 (pos 2147483647) ≡ fin false 1 (pos 31)
unfolding of_int
i32_most_as_float = refl

-- ---- document 02, N3: the same by a word's fields, and the words where an answer turns
-- 2.75 is 40300000: sign 0, biased exponent 128, trailing significand 3145728
fields-of-2·75 : (sign_of 0x40300000 ≡ 0) × (biased_exponent 0x40300000 ≡ 128) × (trailing_significand 0x40300000 ≡ 3145728)
fields-of-2·75 = (refl, refl, refl)

whole-by-fields-of-2·75 : unsigned_of 0x40300000 ≡ 2
unfolding unsigned_whole whole_magnitude
whole-by-fields-of-2·75 = refl

-- -0.5 and NaN
i32_by_fields_of_minus_half : signed_of 0xbf000000 ≡ pos 0
unfolding signed_whole whole_magnitude
i32_by_fields_of_minus_half = refl

by_fields_of_nan : (unsigned_of 0x7fc00000 ≡ 0) × (signed_of 0x7fc00000 ≡ pos 0)
unfolding unsigned_whole signed_whole whole_magnitude
by_fields_of_nan = (refl, refl)

-- the largest below 2 ^ 64, and 2 ^ 64
last_before_saturation : unsigned_of 0x5f7fffff ≡ 18446742974197923840
unfolding unsigned_whole whole_magnitude
last_before_saturation = refl

first_saturated : unsigned_of 0x5f800000 ≡ 18446744073709551615
unfolding unsigned_whole whole_magnitude
first_saturated = refl

-- the largest below 2 ^ 31, 3e9, -2 ^ 31 and the infinity below
i32_ends : (signed_of 0x4effffff ≡ pos 2147483520) × (signed_of 0x4f32d05e ≡ pos 2147483647) × (signed_of 0xcf000000 ≡ negsuc 2147483647) × (signed_of 0xff800000 ≡ negsuc 2147483647)
unfolding signed_whole whole_magnitude
i32_ends = (refl, refl, refl, refl)
