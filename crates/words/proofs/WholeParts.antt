-- The whole part of a float by its value, and as an i32 from the unsigned one.
use Rattle.std.proofs.Common.{◌≡◌, refl, sym, ap, ◌∙◌, Bool, true, false, cond, true≢false, ℕ, zero, suc, ◌+◌, ◌*◌, ◌/◌, ◌≤◌, ◌<◌, ◌-◌, ◌^◌, min, div-lt_iff_lt-mul, le_trans, arith, ltb-true, ltb-false, leb-true, leb-false, ℤ, pos, neg_ℤ, ◌-ℤ◌, leb, lit≤, lit<, SFits, to_z, of_z, to_z-of_z, w32, Float}
use Rattle.std.proofs.Math.Bool.{false≢true}
use Rattle.std.proofs.Math.Nat.{min-le_left, min-eq_right, min-eq_left, zero-min, zero-div}
use Rattle.std.proofs.Math.IntN.{+ℤ_idl}
use Rattle.std.proofs.Math.Facts.{to_z_pos}
use Rattle.std.specs.Float.Ieee.{nan, inf, fin, up, down, lt, neg, binary32, of_bits, to_unsigned, to_signed}
use Rattle.std.specs.Float.{float_with_sign}
use Rattle.std.specs.Float.Ieee.Fits.{down_pos}
use Rattle.std.specs.Float.Ieee.Nearest.{div_same}
use Rattle.std.specs.Float.Ieee.Exact.{HasValue}

-- of a float that is a / c in size, with the sign s
pub unsigned_at : (w : ℕ) (x : Float) (s : Bool) (a c : ℕ) → 0 < c → HasValue x s a c → to_unsigned w x ≡ cond s 0 (min (a / c) (2 ^ w - 1))
unfolding to_unsigned
unsigned_at w nan s a c p v = absurd v
unsigned_at w (inf t) s a c p v = absurd v
unsigned_at w (fin t m e) s a c p v = rw (v.0, div_same (m * up e) (down e) a c (down_pos e) p v.1)

pub signed_at_sign : (h : ℕ) (x : Float) (s : Bool) (a c : ℕ) → 0 < c → HasValue x s a c → to_signed h x ≡ cond s (neg_ℤ (pos (min (a / c) (2 ^ h)))) (pos (min (a / c) (2 ^ h - 1)))
unfolding to_signed
signed_at_sign h nan s a c p v = absurd v
signed_at_sign h (inf t) s a c p v = absurd v
signed_at_sign h (fin t m e) s a c p v = rw (v.0, div_same (m * up e) (down e) a c (down_pos e) p v.1)

-- and of one that is not below 0
pub whole_at : (w : ℕ) (x : Float) (a c : ℕ) → 0 < c → HasValue x false a c → to_unsigned w x ≡ min (a / c) (2 ^ w - 1)
whole_at w x a c p v = unsigned_at w x false a c p v

pub signed_at : (h : ℕ) (x : Float) (a c : ℕ) → 0 < c → HasValue x false a c → to_signed h x ≡ pos (min (a / c) (2 ^ h - 1))
signed_at h x a c p v = signed_at_sign h x false a c p v

-- ---- as an i32
-- a number that was cut at N or not at all, cut at a lower M
pub cut_twice : (q N M : ℕ) → M ≤ N → min q M ≡ min (min q N) M
cut_twice q N M h = go (leb q N) refl
  where
    go : (b : Bool) → leb q N ≡ b → min q M ≡ min (min q N) M
    go true e = ap (λ (x : ℕ). min x M) (sym (min-eq_left (leb-true q N e)))
    go false e =
        let l : N < q = leb-false q N e in
        let a : min q M ≡ M = min-eq_right (omega arith) in
        let b : min q N ≡ N = min-eq_right (omega arith) in
        a ∙ sym (ap (λ (x : ℕ). min x M) b ∙ min-eq_right h)

-- x is not below 0: as an i32 it is what the unsigned whole part is, cut at the largest
pub signed_up : (x : Float) → lt x (fin false 0 (pos 0)) ≡ false → to_signed 31 x ≡ pos (min (to_unsigned 64 x) 2147483647)
unfolding lt to_unsigned to_signed
signed_up nan h = refl
signed_up (inf true) h = absurd (true≢false h)
signed_up (inf false) h = refl
signed_up (fin true m e) h =
    let z : m * up e ≡ 0 = omega (arith, ltb-false 0 (m * up e * 1 + 0 * down e) h) in
    rw (z, zero-div, zero-min)
signed_up (fin false m e) h = ap pos (cut_twice (m * up e / down e) 18446744073709551615 2147483647 (lit≤ tt))

pub signed_down : (x : Float) → lt x (fin false 0 (pos 0)) ≡ true → to_signed 31 x ≡ neg_ℤ (pos (min (to_unsigned 64 (neg x)) 2147483648))
unfolding lt to_unsigned to_signed neg
signed_down nan h = refl
signed_down (inf true) h = refl
signed_down (inf false) h = absurd (false≢true h)
signed_down (fin true m e) h = ap (λ (x : ℕ). neg_ℤ (pos x)) (cut_twice (m * up e / down e) 18446744073709551615 2147483648 (lit≤ tt))
signed_down (fin false m e) h = absurd (omega (arith, ltb-true (m * up e * 1) (0 * down e) h))

pub neg_mag : (n : ℕ) → n < 2147483648 → SFits w32 (neg_ℤ (pos n))
neg_mag zero h = record { sfits = lit< tt }
neg_mag (suc n) h = record { sfits = omega arith }

pub taken_off : (n : ℕ) → n < 2147483648 → to_z w32 (of_z w32 (pos 0 -ℤ to_z w32 n)) ≡ neg_ℤ (pos n)
taken_off n h =
    let t : to_z w32 n ≡ pos n = to_z_pos w32 h in
    let e : pos 0 -ℤ to_z w32 n ≡ neg_ℤ (pos n) = ap (λ (z : ℤ). pos 0 -ℤ z) t ∙ +ℤ_idl (neg_ℤ (pos n)) in
    ap (λ (z : ℤ). to_z w32 (of_z w32 z)) e ∙ to_z-of_z (neg_mag n h)

-- ---- below 2 ^ 23
pub whole_below : (x : Float) → lt x (fin false 1 (pos 23)) ≡ true → to_unsigned 64 x ≤ 8388607
unfolding lt to_unsigned
whole_below nan h = absurd (false≢true h)
whole_below (inf true) h = lit≤ tt
whole_below (inf false) h = absurd (false≢true h)
whole_below (fin true m e) h = lit≤ tt
whole_below (fin false m e) h =
    let l : m * up e / down e < 8388608 = (div-lt_iff_lt-mul (down_pos e)).1 (omega (arith, ltb-true (m * up e * 1) (1 * 8388608 * down e) h)) in
    le_trans (min-le_left (m * up e / down e) 18446744073709551615) (omega arith)

-- ---- as an i32, of a float below 2 ^ 23 in size
size_up : (x : Float) → lt x (fin false 0 (pos 0)) ≡ false → to_unsigned 64 (float_with_sign false x) ≡ to_unsigned 64 x
unfolding lt to_unsigned float_with_sign
size_up nan h = refl
size_up (inf true) h = absurd (true≢false h)
size_up (inf false) h = refl
size_up (fin true m e) h =
    let z : m * up e ≡ 0 = omega (arith, ltb-false 0 (m * up e * 1 + 0 * down e) h) in
    rw (z, zero-div, zero-min)
size_up (fin false m e) h = refl

size_down : (x : Float) → lt x (fin false 0 (pos 0)) ≡ true → float_with_sign false x ≡ neg x
unfolding lt neg float_with_sign
size_down nan h = refl
size_down (inf true) h = refl
size_down (inf false) h = absurd (false≢true h)
size_down (fin true m e) h = refl
size_down (fin false m e) h = absurd (omega (arith, ltb-true (m * up e * 1) (0 * down e) h))

pub signed_small : (x : Float) (n : ℕ) → n ≡ to_unsigned 64 (float_with_sign false x) → lt (float_with_sign false x) (fin false 1 (pos 23)) ≡ true
    → cond (lt x (of_bits binary32 0)) (neg_ℤ (pos n)) (pos n) ≡ to_signed 31 x
unfolding of_bits
signed_small x n e l = go (lt x (fin false 0 (pos 0))) refl
  where
    below : (top : ℕ) → 8388607 ≤ top → min (to_unsigned 64 (float_with_sign false x)) top ≡ n
    below top k = min-eq_left (le_trans (whole_below (float_with_sign false x) l) k) ∙ sym e

    go : (b : Bool) → lt x (fin false 0 (pos 0)) ≡ b → cond b (neg_ℤ (pos n)) (pos n) ≡ to_signed 31 x
    go true h = sym (signed_down x h ∙ ap (λ (y : Float). neg_ℤ (pos (min (to_unsigned 64 y) 2147483648))) (sym (size_down x h)) ∙ ap (λ (k : ℕ). neg_ℤ (pos k)) (below 2147483648 (lit≤ tt)))
    go false h = sym (signed_up x h ∙ ap (λ (k : ℕ). pos (min k 2147483647)) (sym (size_up x h)) ∙ ap pos (below 2147483647 (lit≤ tt)))
