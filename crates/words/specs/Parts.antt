-- Document 01, "Float helpers" and "Wavetable voice": whole parts, and whole parts that are held at a top.
use Rattle.std.specs.Prelude.{ℕ, min, ltb, Float}
use Rattle.std.specs.Float.{binary32}
use Rattle.std.specs.Float.Ieee.{to_unsigned, to_signed, of_int}
use Rattle.words.specs.Binary32.{◌⊖◌, of_count}
use Rattle.words.specs.declared.Part.{Part}

-- "Whole part: toward zero; NaN gives 0. Unsigned: below 0 gives 0, saturates at 18446744073709551615".
abbrev pub whole_part : Float → ℕ
whole_part x = to_unsigned 64 x

-- The whole part "as a float": 18446744073709551615 is 2 to the power 64.
abbrev pub whole_float : Float → Float
whole_float x = of_count (whole_part x)

-- "To i32: saturates at both ends; back as a float, a zero is +0, and 2147483647 becomes 2147483648".
abbrev pub whole_i32_float : Float → Float
whole_i32_float x = of_int binary32 (to_signed 31 x)

-- "Positions (whole parts) have tops. A greater one is held at its top, and the fraction is taken against the held number."
unfoldable pub part_of : ℕ → Float → Part
part_of top x =
    record {
      whole = min (whole_part x) top;
      fraction = x ⊖ of_count (min (whole_part x) top);
      held = ltb top (whole_part x);
    }
