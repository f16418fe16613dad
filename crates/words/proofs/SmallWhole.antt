-- A float from a half to below 2 ^ 23: its word is the biased exponent and the trailing significand alone, and the shift is from 1 to 24.
use Rattle.std.proofs.Common.{◌≡◌, refl, sym, ap, ◌∙◌, subst, Bool, true, false, not, cond, ℕ, zero, suc, ◌+◌, ◌-◌, ◌*◌, ◌/◌, ◌%◌, ◌^◌, ◌≤◌, ◌<◌, min, le_of_suc-le-suc, mul_comm, mul_right_comm, mul-lt-mul_of_pos_right, lt_of_not-le, not-le_of_lt, le_of_mul-le-mul_right, lt_of_mul-lt-mul_right, le_trans, le_of_eq, le_of_lt, lt_of_lt_of_le, mul-le-mul_right, div-lt_iff_lt-mul, mod-lt, arith, ltb-true, ltb-false, leb-false, T, leb, ltb, eqb, lit<, lit≤, pow_pos, Float}
use Rattle.std.proofs.Math.Nat.{eq_of_mul-eq-mul_right, min-eq_left}
use Rattle.std.specs.Float.Ieee.{nan, inf, fin, binary32, up, down, fits, is_nan, of_fields, of_bits, to_bits, to_unsigned}
use Rattle.std.specs.Float.Ieee.Bits.{of_bits-to_bits}
use Rattle.std.specs.Float.Ieee.Fits.{down_pos}
use Rattle.std.specs.Float.Ieee.Exact.{HasValue}
use Rattle.words.specs.Inner.{Small}
use Rattle.words.proofs.Values.{own}
use Rattle.words.proofs.WholeParts.{whole_at}
use Rattle.words.proofs.ByFields.{units, value, units_few, units_above, right}

-- two values of one float
same_value : (x : Float) (s b : Bool) (a c n d : ℕ) → HasValue x s a c → HasValue x b n d → (s ≡ b) × (a * d ≡ n * c)
same_value nan s b a c n d v w = absurd v
same_value (inf t) s b a c n d v w = absurd v
same_value (fin t m e) s b a c n d v w = (
  sym v.0 ∙ w.0,
  eq_of_mul-eq-mul_right (down e) (down_pos e) (a * d) (n * c)
      (mul_right_comm a d (down e)
      ∙ ap (λ (x : ℕ). x * d) (sym v.1)
      ∙ mul_right_comm (m * up e) c d
      ∙ ap (λ (x : ℕ). x * c) w.1
      ∙ mul_right_comm n (down e) c),
)

-- where E is below 126, it is below a half
below_half : (e t : ℕ) → t < 8388608 → e < 126 → units e t * 2 < 2 ^ 149
below_half e t k l = mul-lt-mul_of_pos_right (units_few 148 e t k (omega arith)) (lit< tt)

-- an infinity or a NaN has no value
no_value : (s z b : Bool) (a c : ℕ) → HasValue (cond z (inf s) nan) b a c → ⊥
no_value s true b a c v = v
no_value s false b a c v = v

finite_exponent : (s b : Bool) (e t a c : ℕ) → e < 256 → HasValue (of_fields binary32 s e t) b a c → e < 255
unfolding of_fields
finite_exponent s b e t a c h v = go (ltb e 255) refl
  where
    go : (z : Bool) → ltb e 255 ≡ z → e < 255
    go true q = ltb-true e 255 q
    go false q =
        let g : 255 ≤ e = ltb-false e 255 q in
        let l : e ≡ 255 = omega arith in
        absurd (no_value s (eqb t 0) b a c (subst (λ (x : ℕ). HasValue (of_fields binary32 s x t) b a c) l v))

shifted : (e t : ℕ) → 126 ≤ e → e ≤ 149 → (8388608 + t) / 2 ^ (150 - e) ≡ units e t / 2 ^ 149
shifted zero t l h = absurd (omega arith)
shifted (suc e) t l h = sym (right (8388608 + t) e (omega arith))

scaled_least : (a c n : ℕ) → c ≤ a * 2 → a * 2 ^ 149 ≡ n * c → 2 ^ 149 * c ≤ n * 2 * c
scaled_least a c n h q =
    le_trans (le_of_eq (mul_comm (2 ^ 149) c)) (le_trans (mul-le-mul_right (2 ^ 149) h) (le_of_eq (mul_right_comm a 2 (2 ^ 149) ∙ ap (λ (x : ℕ). x * 2) q ∙ mul_right_comm n c 2)))

scaled_below : (a c n : ℕ) → a < 8388608 * c → a * 2 ^ 149 ≡ n * c → n * c < 8388608 * 2 ^ 149 * c
scaled_below a c n h q =
    lt_of_lt_of_le (subst (λ (x : ℕ). x < 8388608 * c * 2 ^ 149) q (mul-lt-mul_of_pos_right h (pow_pos 149))) (le_of_eq (mul_right_comm 8388608 c (2 ^ 149)))

small_read : (s : Bool) (e t : ℕ) → e < 256 → t < 8388608 → Small (of_fields binary32 s e t)
    → (s ≡ false) × (126 ≤ e) × (e ≤ 149) × ((8388608 + t) / 2 ^ (150 - e) ≡ to_unsigned 64 (of_fields binary32 s e t))
small_read s e t h k y =
    let a = y.digits * up y.exponent in
    let c = down y.exponent in
    let p : 0 < c = down_pos y.exponent in
    let x = of_fields binary32 s e t in
    let v : HasValue x false a c = subst (λ (f : Float). HasValue f false a c) (sym y.is) (own y.digits y.exponent) in
    let w : HasValue x s (units e t) (2 ^ 149) = value s e t (finite_exponent s false e t a c h v) in
    let q = same_value x false s a c (units e t) (2 ^ 149) v w in
    let lo : 2 ^ 149 ≤ units e t * 2 = le_of_mul-le-mul_right (scaled_least a c (units e t) y.least q.1) p in
    let hi : units e t / 2 ^ 149 < 2 ^ 23 = (div-lt_iff_lt-mul (pow_pos 149)).1 (lt_of_mul-lt-mul_right c (scaled_below a c (units e t) y.below q.1)) in
    let l : 125 < e = lt_of_not-le (λ (g : e ≤ 125). not-le_of_lt (below_half e t k (omega (arith, g))) lo) in
    let m : e ≤ 149 = le_of_suc-le-suc (lt_of_not-le (λ (g : 150 ≤ e). not-le_of_lt hi (units_above 23 e t g))) in
    let n : to_unsigned 64 x ≡ min (units e t / 2 ^ 149) 18446744073709551615 = whole_at 64 x (units e t) (2 ^ 149) (pow_pos 149) (subst (λ (b : Bool). HasValue x b (units e t) (2 ^ 149)) (sym q.0) w) in
    (sym q.0, l, m, shifted e t l m ∙ sym (n ∙ min-eq_left (le_trans (le_of_lt hi) (lit≤ tt))))

plain_exponent : (w : ℕ) → w < 2147483648 → w % 2147483648 / 8388608 ≡ w / 8388608
plain_exponent w h = omega arith

-- of such a float the word is E and T alone, and the shift is from 1 to 24
pub small_whole : (y : Float) → T (fits binary32 y) → Small y
    → (126 ≤ to_bits binary32 y / 8388608) × (to_bits binary32 y / 8388608 ≤ 149)
    × ((8388608 + to_bits binary32 y % 8388608) / 2 ^ (150 - to_bits binary32 y / 8388608) ≡ to_unsigned 64 y)
unfolding of_bits
small_whole y f s =
    let w = to_bits binary32 y in
    let e = w % 2147483648 / 8388608 in
    let o : of_fields binary32 (leb 2147483648 w) e (w % 8388608) ≡ y = of_bits-to_bits binary32 y f in
    let r = small_read (leb 2147483648 w) e (w % 8388608) (omega arith) (mod-lt w (lit< tt)) (subst Small (sym o) s) in
    let p : e ≡ w / 8388608 = plain_exponent w (leb-false 2147483648 w r.0) in
    subst (λ (n : ℕ). (126 ≤ n) × (n ≤ 149) × ((8388608 + w % 8388608) / 2 ^ (150 - n) ≡ to_unsigned 64 y)) p
    (r.1, r.2, r.3 ∙ ap (to_unsigned 64) o)

pub small_no_nan : (y : Float) → Small y → T (not (is_nan y))
unfolding is_nan
small_no_nan y s = subst (λ (x : Float). T (not (is_nan x))) (sym s.is) tt
