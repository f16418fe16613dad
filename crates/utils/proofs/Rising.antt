-- Document 01, "Pitch": of both ratio tables each entry is larger than the one before it. One test, computed over a table, carried to each index.
use Rattle.std.proofs.Common.{List, [], ◌∷◌, Bool, true, ◌&&◌, ℕ, zero, suc, ◌<◌, le_of_suc-le-suc, not-suc-le-zero, T, length, get_or, Float}
use Rattle.std.specs.Float.Ieee.{nan, lt}
use Rattle.std.specs.Float.Ieee.Fits.{and_l, and_r}
use Rattle.words.specs.Binary32.{decimal}
use Rattle.utils.specs.Units.{lut_pitch_ratio_high, lut_pitch_ratio_low}

-- Whether each entry is larger than the one before it.
unfoldable rising_from : Float → List Float → Bool
rising_from x [] = true
rising_from x (y ∷ l) = lt x y && rising_from y l

unfoldable rising : List Float → Bool
unfolding rising_from
rising [] = true
rising (x ∷ l) = rising_from x l

carried : (x : Float) (l : List Float) → T (rising_from x l) → (n : ℕ) → n < length l → T (lt (get_or (x ∷ l) n nan) (get_or l n nan))
unfolding rising_from
carried x [] t n h = absurd (not-suc-le-zero h)
carried x (y ∷ l) t zero h = and_l (lt x y) (rising_from y l) t
carried x (y ∷ l) t (suc n) h = carried y l (and_r (lt x y) (rising_from y l) t) n (le_of_suc-le-suc h)

rises : (l : List Float) → T (rising l) → (n : ℕ) → suc n < length l → T (lt (get_or l n nan) (get_or l (suc n) nan))
unfolding rising
rises [] t n h = absurd (not-suc-le-zero h)
rises (x ∷ l) t n h = carried x l t n (le_of_suc-le-suc h)

pub high_rises : (n : ℕ) → suc n < 256 → T (lt (get_or lut_pitch_ratio_high n nan) (get_or lut_pitch_ratio_high (suc n) nan))
unfolding lut_pitch_ratio_high decimal lt rising
high_rises n h = rises lut_pitch_ratio_high tt n h

pub low_rises : (n : ℕ) → suc n < 256 → T (lt (get_or lut_pitch_ratio_low n nan) (get_or lut_pitch_ratio_low (suc n) nan))
unfolding lut_pitch_ratio_low decimal lt rising
low_rises n h = rises lut_pitch_ratio_low tt n h
