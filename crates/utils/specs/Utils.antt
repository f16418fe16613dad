-- Document 01, "Float helpers": clamp, min, max, abs, and what the source's `utils/mod.rs` and `rsqrt.rs` have, as written there.
use Rattle.std.specs.Prelude.{◌+◌, ◌-◌, ◌/◌, false, cond, List, length, get_or, Float}
use Rattle.std.specs.Float.{nan, inf, binary32, float_with_sign}
use Rattle.std.specs.Float.Ieee.{lt, is_nan, of_bits, to_bits}
use Rattle.words.specs.Binary32.{◌⊕◌, ◌⊖◌, ◌⊗◌, decimal}
use Rattle.words.specs.Parts.{whole_i32_float, part_of}

-- "clamp passes NaN and -0 through".
abbrev pub clamp_of : Float → Float → Float → Float
clamp_of x low high = cond (lt x low) low (cond (lt high x) high x)

-- "min and max prefer the operand that isn't NaN".
abbrev pub min_of : Float → Float → Float
min_of x y = cond (is_nan y) x (cond (lt x y) x y)

abbrev pub max_of : Float → Float → Float
max_of x y = cond (is_nan y) x (cond (lt y x) x y)

-- "abs clears the sign bit".
abbrev pub abs_of : Float → Float
abs_of x = float_with_sign false x

-- `one_pole`: the filter's next value.
abbrev pub one_pole : Float → Float → Float → Float
one_pole out input coefficient = out ⊕ coefficient ⊗ (input ⊖ out)

-- `interpolate_wrap`. "Where it would read past its table's end, the whole part is held at the last entry that has a next one,
-- uncounted, and the fraction is taken against the held number."
unfoldable pub interpolate_wrap : List Float → Float → Float → Float
interpolate_wrap table index size =
    let wrapped = clamp_of (index ⊖ whole_i32_float index) (decimal 0 0) (decimal 1 0) in
    let part = part_of (length table - 2) (wrapped ⊗ size) in
    let a = get_or table part.whole nan in
    let b = get_or table (part.whole + 1) nan in
    a ⊕ (b ⊖ a) ⊗ part.fraction

-- `fast_rsqrt_carmack`: one step of Newton's iteration from an estimate by the word's halves.
unfoldable pub fast_rsqrt_carmack : Float → Float
fast_rsqrt_carmack x =
    let y = of_bits binary32 (0x5f3759df - to_bits binary32 x / 2) in
    let x2 = x ⊗ decimal 5 1 in
    cond (lt (decimal 0 0) x) (y ⊗ (decimal 15 1 ⊖ x2 ⊗ y ⊗ y)) (inf false)
