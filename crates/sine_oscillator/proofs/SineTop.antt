-- The sine's table is never read past its end: for every phase the whole part is at most 512, and the last entry that has a next one is 639.
-- What a clamp to 0 and 1 gives is NaN, a zero or at most 1, and a product with 512 is then at most 512, since rounding keeps order.
use Rattle.std.specs.Prelude.{◌≡◌, ℕ, zero, suc, ◌-◌, ◌*◌, ◌/◌, ◌^◌, ◌<◌, ◌≤◌, Bool, true, false, cond, ◌&&◌, ◌||◌, T, eqb, ltb, pos}
use Rattle.std.proofs.Common.{refl, sym, ap, ◌∙◌, true≢false, zero-le, le_trans, le_of_lt, le_of_eq, le_of_mul-le-mul_right, mul_comm, mul-one, mul_right_comm, arith, ltb-false, le-ltb, ltb→lt, eqb→eq, lit<, lit≤, Float}
use Rattle.std.proofs.Math.Nat.{min-le_left, div-le_of_le-mul}
use Rattle.std.specs.Float.Ieee.{nan, inf, fin, binary32, up, down, lt, le, eq, size, odd, units, mul, round, to_unsigned}
use Rattle.std.specs.Float.Ieee.Nearest.{closest}
use Rattle.std.specs.Float.Ieee.Exact.{HasValue}
use Rattle.std.specs.Float.Ieee.Order.{round_mono}
use Rattle.std.specs.Float.Ieee.Back.{round_whole}
use Rattle.std.specs.Float.Ieee.Fits.{down_pos}
use Rattle.words.specs.Binary32.{◌⊖◌, ◌⊗◌, decimal}
use Rattle.words.specs.Parts.{whole_part, whole_i32_float, part_of}
use Rattle.utils.specs.Utils.{clamp_of}
use Rattle.sine_oscillator.specs.Sine.{lut_sine_size}

-- a float that is no more than a whole number n has no greater whole part
at_most : (a b : ℕ) (t : Bool) → T (ltb a b || (eqb a b && t)) → a ≤ b
at_most a b t = go (ltb a b) (eqb a b) (ltb→lt a b) (eqb→eq a b)
  where
    go : (x y : Bool) → (T x → a < b) → (T y → a ≡ b) → T (x || (y && t)) → a ≤ b
    go true y f g h = le_of_lt (f tt)
    go false true f g h = le_of_eq (g tt)
    go false false f g h = absurd h

whole_le : (x y : Float) (n : ℕ) → T (le x y) → HasValue y false n 1 → to_unsigned 64 x ≤ n
unfolding le lt eq to_unsigned
whole_le nan y n h v = zero-le
whole_le (inf true) y n h v = zero-le
whole_le (fin true m e) y n h v = zero-le
whole_le (inf false) nan n h v = absurd v
whole_le (inf false) (inf t) n h v = absurd v
whole_le (inf false) (fin t k d) n h v = absurd h
whole_le (fin false m e) nan n h v = absurd v
whole_le (fin false m e) (inf t) n h v = absurd v
whole_le (fin false m e) (fin true k d) n h v = absurd (true≢false v.0)
whole_le (fin false m e) (fin false k d) n h v =
    let c : m * up e * down d ≤ k * up d * down e = at_most _ _ _ h in
    let q : k * up d ≡ n * down d = sym (mul-one (k * up d)) ∙ v.1 in
    let l : m * up e * down d ≤ n * down e * down d = le_trans c (le_of_eq (ap (λ (z : ℕ). z * down e) q ∙ mul_right_comm n (down d) (down e))) in
    le_trans (min-le_left (m * up e / down e) 18446744073709551615) (div-le_of_le-mul (down e) (le_trans (le_of_mul-le-mul_right l (down_pos d)) (le_of_eq (mul_comm n (down e)))))

-- a rounded float below 0 has none
minus_odd : (d q k l : ℕ) → to_unsigned 64 (odd d true q k l) ≡ 0
unfolding odd to_unsigned
minus_odd d zero k l = refl
minus_odd d (suc q) k l = refl

minus_units : (q k : ℕ) → to_unsigned 64 (units binary32 true q k) ≡ 0
unfolding units to_unsigned
minus_units q k = pick (ltb (q * 2 ^ k) (2 ^ 277))
  where
    pick : (b : Bool) → to_unsigned 64 (cond b (odd 25 true q k 149) (inf true)) ≡ 0
    pick true = minus_odd 25 q k 149
    pick false = refl

minus_whole : (a c : ℕ) → to_unsigned 64 (round binary32 true a c) ≡ 0
unfolding round
minus_whole a c =
    let n = a * 2 ^ 149 in
    let k = size (n / c) - 24 in
    let u = c * 2 ^ k in
    minus_units (closest n u) k

times_most : (y : Float) → lt y (fin false 0 (pos 0)) ≡ false → lt (fin false 1 (pos 0)) y ≡ false → to_unsigned 64 (mul binary32 y (fin false 1 (pos 9))) ≤ 512
unfolding lt mul to_unsigned
times_most nan a b = zero-le
times_most (inf true) a b = absurd (true≢false a)
times_most (inf false) a b = absurd (true≢false b)
times_most (fin true m e) a b = rw (minus_whole (m * up e * (1 * 512)) (down e * 1)) zero-le
times_most (fin false m e) a b =
    let l : m * up e * 1 ≤ 1 * 1 * down e = ltb-false (1 * 1 * down e) (m * up e * 1) b in
    whole_le (round binary32 false (m * up e * (1 * 512)) (down e * 1)) (round binary32 false 512 1) 512
    (round_mono binary32 (m * up e * (1 * 512)) (down e * 1) 512 1 (omega (arith, down_pos e)) (lit< tt) (omega arith)) (round_whole binary32 false 512 (lit≤ tt))

clamped_most : (y : Float) → to_unsigned 64 (mul binary32 (clamp_of y (fin false 0 (pos 0)) (fin false 1 (pos 0))) (fin false 1 (pos 9))) ≤ 512
unfolding lt
clamped_most y = go (lt y (fin false 0 (pos 0))) (lt (fin false 1 (pos 0)) y) refl refl
  where
    go : (a b : Bool) → lt y (fin false 0 (pos 0)) ≡ a → lt (fin false 1 (pos 0)) y ≡ b
        → to_unsigned 64 (mul binary32 (cond a (fin false 0 (pos 0)) (cond b (fin false 1 (pos 0)) y)) (fin false 1 (pos 9))) ≤ 512
    go true b p q = times_most (fin false 0 (pos 0)) refl refl
    go false true p q = times_most (fin false 1 (pos 0)) refl refl
    go false false p q = times_most y p q

-- ---- "only junk kept states lead there": on the sine's table no float at all does
pub sine_top : (phase : Float) → whole_part (clamp_of (phase ⊖ whole_i32_float phase) (decimal 0 0) (decimal 1 0) ⊗ lut_sine_size) ≤ 512
unfolding decimal
sine_top phase = clamped_most (phase ⊖ whole_i32_float phase)

pub sine_never_held : (phase : Float) → (part_of 639 (clamp_of (phase ⊖ whole_i32_float phase) (decimal 0 0) (decimal 1 0) ⊗ lut_sine_size)).held ≡ false
unfolding part_of
sine_never_held phase = le-ltb 639 (whole_part (clamp_of (phase ⊖ whole_i32_float phase) (decimal 0 0) (decimal 1 0) ⊗ lut_sine_size)) (le_trans (sine_top phase) (lit≤ tt))
