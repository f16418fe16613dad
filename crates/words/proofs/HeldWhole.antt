-- The whole part of a float held at a top, and whether it was held: the float is held between a half and the top and a half, and tested against the number after the top.
use Rattle.std.proofs.Common.{◌≡◌, refl, sym, ap, ◌∙◌, subst, ◌⊎◌, inl, inr, Bool, true, false, not, T, cond, ◌&&◌, ◌||◌, true≢false, ℕ, zero, suc, ◌+◌, ◌-◌, ◌*◌, ◌/◌, ◌^◌, ◌≤◌, ◌<◌, min, zero-le, mul-one, one-mul, mul-pos, add-mul, mul_assoc, le-div_iff_mul-le, div-lt_iff_lt-mul, le_trans, lt_of_lt_of_le, lt_of_not-le, not-le_of_lt, eq-or-lt_of_le, le_of_lt, le_of_eq, mul-le-mul_right, mul_right_comm, le_of_mul-le-mul_right, add-one, arith, ltb-true, ltb-false, leb-true, leb-false, lt-ltb, le-ltb, eq-eqb, ne_eqb, leb, ltb, eqb, lit<, lit≤, pos, negsuc, neg_ℤ, pow_mono, shl_lt, Float}
use Rattle.std.proofs.Math.Nat.{min-eq_left, min-eq_right, div-eq_of_lt, le-min, min-le_left}
use Rattle.std.specs.Float.Ieee.{nan, inf, fin, binary32, up, down, lt, le, eq, is_nan, sum, sub, round, of_bits, of_int, to_unsigned, to_signed}
use Rattle.std.specs.Float.{IsFloatMin, IsFloatMax, float_with_sign}
use Rattle.std.proofs.Math.Bool.{or-true, and-false}
use Rattle.std.proofs.lemmas.Bool.{or_cases, or_parts, and_parts, eqb-true, false≢true}
use Rattle.std.proofs.lemmas.Float.{T_from_true, lt_irrefl as float_lt_irrefl, lt_of_lt_of_le as float_lt_of_lt_of_le}
use Rattle.std.specs.Float.Ieee.Fits.{down_pos}
use Rattle.std.specs.Float.Ieee.Exact.{HasValue, round_exact}
use Rattle.std.specs.Float.Ieee.Scale.{round_same}
use Rattle.words.specs.Binary32.{◌⊕◌, ◌⊖◌, decimal, of_count}
use Rattle.words.specs.Inner.{half, Small}
use Rattle.words.proofs.Floats.{above_no_nan}
use Rattle.words.proofs.Values.{own, below_at, add_at, count_value}
use Rattle.words.proofs.WholeParts.{whole_at, whole_below, signed_small}

-- ---- what a comparison of values says
values_not_below : (x y : Float) (a c b d : ℕ) → 0 < c → 0 < d → HasValue x false a c → HasValue y false b d → lt x y ≡ false → b * c ≤ a * d
values_not_below x y a c b d p q v w h = go (leb (b * c) (a * d)) refl
  where
    go : (t : Bool) → leb (b * c) (a * d) ≡ t → b * c ≤ a * d
    go true e = leb-true (b * c) (a * d) e
    go false e = absurd (true≢false (sym (below_at x y a c b d p q v w (leb-false (b * c) (a * d) e)) ∙ h))

-- ---- what the tests of `max` and `min` say, which leave open which of two equal floats is taken
-- a float that is not at most another is not below it
not_least : (x y : Float) (c : Bool) → (le x y || c) ≡ false → lt x y ≡ false
unfolding le
not_least x y c h = (or_parts (lt x y) (eq x y) (or_parts (le x y) c h).0).0

-- and one that is at most another is not above it
least : (x y z : Float) → (lt y x ≡ true → T (not (is_nan z))) → (le x y || is_nan z) ≡ true → lt y x ≡ false
least x y z n h = go (lt y x) refl (or_cases (le x y) (is_nan z) h)
  where
    go : (b : Bool) → lt y x ≡ b → (le x y ≡ true) ⊎ (is_nan z ≡ true) → b ≡ false
    go true e (inl l) = absurd (float_lt_irrefl y (float_lt_of_lt_of_le y x y (T_from_true _ e) (T_from_true _ l)))
    go true e (inr q) = absurd (subst (λ (b : Bool). T (not b)) q (n e))
    go false e q = refl

-- ---- raised to a half, a float keeps its whole part
-- at least a half, or infinite
abbrev FromHalf : Float → Type 0
FromHalf nan = ⊥
FromHalf (inf s) = s ≡ false
FromHalf (fin s m e) = (s ≡ false) × (down e ≤ m * up e * 2)

above_half : (x : Float) → (lt half x ≡ true) ⊎ (eq half x ≡ true) → FromHalf x
unfolding lt eq decimal
above_half nan (inl l) = absurd (false≢true l)
above_half nan (inr l) = absurd (false≢true l)
above_half (inf true) (inl l) = absurd (false≢true l)
above_half (inf true) (inr l) = absurd (false≢true l)
above_half (inf false) q = refl
above_half (fin true m e) (inl l) = absurd (false≢true l)
above_half (fin true m e) (inr l) =
    let z : 1 * 1 * down e ≡ 0 = eqb-true (1 * 1 * down e) 0 (and_parts (eqb (1 * 1 * down e) (m * up e * 2)) (eqb (1 * 1 * down e) 0) l).1 in
    absurd (omega (arith, down_pos e))
above_half (fin false m e) (inl l) = (refl, omega (arith, ltb-true (1 * 1 * down e) (m * up e * 2) l))
above_half (fin false m e) (inr l) = (refl, omega (arith, eqb-true (1 * 1 * down e) (m * up e * 2) (and_parts _ _ l).0))

from_half : (x : Float) → T (le half x) → FromHalf x
unfolding le
from_half x h = above_half x (or_cases (lt half x) (eq half x) (passed (le half x) h))
  where
    passed : (b : Bool) → T b → b ≡ true
    passed true t = refl
    passed false t = absurd t

-- what is not above a half has no whole part
no_whole : (x : Float) → lt half x ≡ false → to_unsigned 64 x ≡ 0
unfolding lt to_unsigned decimal
no_whole nan h = refl
no_whole (inf true) h = refl
no_whole (inf false) h = absurd (true≢false h)
no_whole (fin true m e) h = refl
no_whole (fin false m e) h =
    let l : m * up e < down e = omega (arith, ltb-false (1 * 1 * down e) (m * up e * 2) h, down_pos e) in
    ap (λ (n : ℕ). min n 18446744073709551615) (div-eq_of_lt l)

half_whole : to_unsigned 64 half ≡ 0
unfolding to_unsigned decimal
half_whole = refl

raised : (x y : Float) → IsFloatMax x half y → to_unsigned 64 y ≡ to_unsigned 64 x
raised x y (inl e) = ap (to_unsigned 64) e ∙ go (le half x || is_nan half) refl
  where
    go : (b : Bool) → (le half x || is_nan half) ≡ b → to_unsigned 64 (cond b x half) ≡ to_unsigned 64 x
    go true h = refl
    go false h = half_whole ∙ sym (no_whole x (not_least half x (is_nan half) h))
raised x y (inr e) = ap (to_unsigned 64) e ∙ go (le x half || is_nan x) refl
  where
    go : (b : Bool) → (le x half || is_nan x) ≡ b → to_unsigned 64 (cond b half x) ≡ to_unsigned 64 x
    go true h = half_whole ∙ sym (no_whole x (least x half x (above_no_nan half x) h))
    go false h = refl

-- ---- the top and a half
odds : (top d : ℕ) → (top * 2 + 1) * d ≡ top * d * 2 + d
odds top d = add-mul (top * 2) 1 d ∙ ap (λ (n : ℕ). n + 1 * d) (mul_right_comm top 2 d) ∙ ap (λ (n : ℕ). top * d * 2 + n) (one-mul d)

top_value : (t : Float) (top : ℕ) → top ≤ 8388607 → t ≡ of_count top ⊕ half → HasValue t false (top * 2 + 1) 2
unfolding decimal
top_value t top m q =
    subst (λ (f : Float). HasValue f false (top * 2 + 1) 2) (sym (q ∙ add_at (of_count top) half top 1 1 2 (lit< tt) (lit< tt) (count_value top (le_trans m (lit≤ tt))) (own 1 (negsuc 0))))
    (round_exact binary32 false (top * 2 + 1) 2 (top * 2 + 1) 148 (lit< tt) few (lt_of_lt_of_le (shl_lt 24 148 few) (pow_mono {i = 24 + 148} {j = 277} (lit≤ tt))) (sym (mul_assoc (top * 2 + 1) (2 ^ 148) 2)))
  where
    few : top * 2 + 1 < 2 ^ 24
    few = omega arith

-- ---- y is not above the top and a half
below_inf : (f : Float) (a c : ℕ) → HasValue f false a c → lt f (inf false) ≡ true
unfolding lt
below_inf nan a c w = absurd w
below_inf (inf b) a c w = absurd w
below_inf (fin b n k) a c w = refl

inside : (y t : Float) (top : ℕ) → top ≤ 8388607 → HasValue t false (top * 2 + 1) 2 → FromHalf y → lt t y ≡ false → (to_unsigned 64 y ≡ min (to_unsigned 64 y) top) × Small y
inside nan t top m v h l = absurd h
inside (inf s) t top m v h l = absurd (true≢false (sym (below_inf t (top * 2 + 1) 2 v) ∙ ap (λ (b : Bool). lt t (inf b)) (sym h) ∙ l))
inside (fin true n e) t top m v h l = absurd (true≢false h.0)
inside (fin false n e) t top m v h l =
    let a : n * up e * 2 ≤ (top * 2 + 1) * down e = values_not_below t (fin false n e) (top * 2 + 1) 2 (n * up e) (down e) (lit< tt) (down_pos e) v (own n e) l in
    let p : 0 < down e = down_pos e in
    let o : (top * 2 + 1) * down e ≡ top * down e * 2 + down e = odds top (down e) in
    let k : top * down e ≤ 8388607 * down e = mul-le-mul_right (down e) m in
    let s : (top + 1) * down e ≡ top * down e + down e = add-mul top 1 (down e) ∙ ap (λ (x : ℕ). top * down e + x) (one-mul (down e)) in
    let w : n * up e / down e < top + 1 = (div-lt_iff_lt-mul (down_pos e)).1 (omega arith) in
    let u : to_unsigned 64 (fin false n e) ≤ top =
    le_trans (le_of_eq (whole_at 64 (fin false n e) (n * up e) (down e) (down_pos e) (own n e)))
    (le_trans (min-le_left (n * up e / down e) 18446744073709551615) (omega arith)) in
    (sym (min-eq_left u), record { digits = n; exponent = e; is = refl; least = h.1; below = omega (arith, down_pos e) })

-- ---- y is not below the top and a half
inf_whole : to_unsigned 64 (inf false) ≡ 18446744073709551615
unfolding to_unsigned
inf_whole = refl

top_small : (t : Float) (top : ℕ) → top ≤ 8388607 → HasValue t false (top * 2 + 1) 2 → Small t
top_small nan top m v = absurd v
top_small (inf b) top m v = absurd v
top_small (fin b n e) top m v =
    let o : (top * 2 + 1) * down e ≡ top * down e * 2 + down e = odds top (down e) in
    let k : top * down e ≤ 8388607 * down e = mul-le-mul_right (down e) m in
    record { digits = n; exponent = e; is = ap (λ (s : Bool). fin s n e) v.0; least = omega (arith, v.1); below = omega (arith, v.1, down_pos e) }

top_whole : (t : Float) (top : ℕ) → top ≤ 8388607 → HasValue t false (top * 2 + 1) 2 → to_unsigned 64 t ≡ top
top_whole t top m v =
    let q : (top * 2 + 1) / 2 ≡ top = omega arith in
    whole_at 64 t (top * 2 + 1) 2 (lit< tt) v ∙ ap (λ (k : ℕ). min k 18446744073709551615) q ∙ min-eq_left (le_trans m (lit≤ tt))

outside : (y t : Float) (top : ℕ) → top ≤ 8388607 → HasValue t false (top * 2 + 1) 2 → FromHalf y → lt y t ≡ false → (to_unsigned 64 t ≡ min (to_unsigned 64 y) top) × Small t
outside y t top m v h l = (top_whole t top m v ∙ sym (min-eq_right (go y h l)), top_small t top m v)
  where
    go : (f : Float) → FromHalf f → lt f t ≡ false → top ≤ to_unsigned 64 f
    go nan g k = absurd g
    go (inf s) g k = le_trans m (le_trans (lit≤ tt) (le_of_eq (sym (ap (λ (b : Bool). to_unsigned 64 (inf b)) g ∙ inf_whole))))
    go (fin true n e) g k = absurd (true≢false g.0)
    go (fin false n e) g k =
        let a : (top * 2 + 1) * down e ≤ n * up e * 2 = values_not_below (fin false n e) t (n * up e) (down e) (top * 2 + 1) 2 (down_pos e) (lit< tt) (own n e) v k in
        let o : (top * 2 + 1) * down e ≡ top * down e * 2 + down e = odds top (down e) in
        let w : top ≤ n * up e / down e = (le-div_iff_mul-le (down_pos e)).1 (omega arith) in
        le_trans (le-min w (le_trans m (lit≤ tt))) (le_of_eq (sym (whole_at 64 (fin false n e) (n * up e) (down e) (down_pos e) (own n e))))

-- ---- a float raised to a half, and held at the top and a half
valued : (f : Float) (a c : ℕ) → HasValue f false a c → T (not (is_nan f))
unfolding is_nan
valued nan a c w = w
valued (inf b) a c w = tt
valued (fin b n k) a c w = tt

no_nan : (y : Float) → FromHalf y → T (not (is_nan y))
unfolding is_nan
no_nan nan h = h
no_nan (inf s) h = tt
no_nan (fin s m e) h = tt

module _ (x y t r : Float) (top : ℕ) (m : top ≤ 8388607) (q : t ≡ of_count top ⊕ half) (a : IsFloatMax x half y) (b : T (le half y)) where
  abbrev Held : Float → Type 0
  Held f = (to_unsigned 64 f ≡ min (to_unsigned 64 x) top) × Small f

  at_value : HasValue t false (top * 2 + 1) 2
  at_value = top_value t top m q

  taken : lt t y ≡ false → Held y
  taken l =
      let i = inside y t top m at_value (from_half y b) l in
      (i.0 ∙ ap (λ (n : ℕ). min n top) (raised x y a), i.1)

  held : lt y t ≡ false → Held t
  held l =
      let i = outside y t top m at_value (from_half y b) l in
      (i.0 ∙ ap (λ (n : ℕ). min n top) (raised x y a), i.1)

  pub held_law : IsFloatMin y t r → Held r
  held_law (inl e) = subst Held (sym e) (go (le y t || is_nan t) refl)
    where
      go : (c : Bool) → (le y t || is_nan t) ≡ c → Held (cond c y t)
      go true h = taken (least y t t (λ l. valued t (top * 2 + 1) 2 at_value) h)
      go false h = held (not_least y t (is_nan t) h)
  held_law (inr e) = subst Held (sym e) (go (le t y || is_nan y) refl)
    where
      go : (c : Bool) → (le t y || is_nan y) ≡ c → Held (cond c t y)
      go true h = held (least t y y (λ l. no_nan y (from_half y b)) h)
      go false h = taken (not_least t y (is_nan y) h)

-- ---- whether it was held
order : (A B : ℕ) → (ltb A B || (eqb A B && (true || eqb A 0))) ≡ leb A B
order A B = go (leb A B) refl
  where
    go : (t : Bool) → leb A B ≡ t → (ltb A B || (eqb A B && (true || eqb A 0))) ≡ t
    go true e = split (eq-or-lt_of_le (leb-true A B e))
      where
        split : (A ≡ B) ⊎ (A < B) → (ltb A B || (eqb A B && (true || eqb A 0))) ≡ true
        split (inl q) = rw (eq-eqb A B q) (or-true (ltb A B))
        split (inr l) = rw (lt-ltb A B l) refl
    go false e =
        let l : B < A = leb-false A B e in
        rw (le-ltb A B (le_of_lt l), ne_eqb A B (λ q. absurd (omega arith))) refl

quotients : (A B n u d top : ℕ) → 0 < d → (leb A B ≡ true → suc top * d ≤ n * u) → (leb A B ≡ false → n * u < suc top * d) → top < 8388607 → leb A B ≡ ltb top (min (n * u / d) 18446744073709551615)
quotients A B n u d top p yes' no' m = go (leb A B) refl
  where
    go : (t : Bool) → leb A B ≡ t → t ≡ ltb top (min (n * u / d) 18446744073709551615)
    go true e = sym (lt-ltb top _ (le-min ((le-div_iff_mul-le p).1 (yes' e)) (le_trans m (lit≤ tt))))
    go false e =
        let w : n * u / d < suc top = (div-lt_iff_lt-mul p).1 (no' e) in
        sym (le-ltb top _ (le_trans (min-le_left (n * u / d) 18446744073709551615) (omega arith)))

pub held_test : (t x : Float) (top : ℕ) → top < 8388607 → t ≡ of_count (top + 1) → le t x ≡ ltb top (to_unsigned 64 x)
unfolding le lt eq to_unsigned
held_test t x top m q = go t (subst (λ (f : Float). HasValue f false (top + 1) 1) (sym q) (count_value (top + 1) (omega arith))) x
  where
    go : (f : Float) → HasValue f false (top + 1) 1 → (y : Float) → le f y ≡ ltb top (to_unsigned 64 y)
    go nan v y = absurd v
    go (inf s) v y = absurd v
    go (fin true k g) v y = absurd (true≢false v.0)
    go (fin false k g) v nan = sym (le-ltb top 0 zero-le)
    go (fin false k g) v (inf true) = sym (le-ltb top 0 zero-le)
    go (fin false k g) v (inf false) = sym (lt-ltb top 18446744073709551615 (lt_of_lt_of_le m (lit≤ tt)))
    go (fin false k g) v (fin true n e) =
        let b : 0 < k * up g = omega (arith, v.1, down_pos g) in
        let a : 0 < k * up g * down e = mul-pos b (down_pos e) in
        rw (ne_eqb (k * up g * down e) 0 (λ q. absurd (omega arith))) (and-false (eqb (k * up g * down e) (n * up e * down g)) ∙ sym (le-ltb top 0 zero-le))
    go (fin false k g) v (fin false n e) =
        let q : k * up g * down e ≡ suc top * down e * down g =
        ap (λ (z : ℕ). z * down e) (sym (mul-one (k * up g)) ∙ v.1 ∙ ap (λ (z : ℕ). z * down g) (add-one top))
        ∙ mul_right_comm (suc top) (down g) (down e) in
        order (k * up g * down e) (n * up e * down g)
        ∙ quotients (k * up g * down e) (n * up e * down g) n (up e) (down e) top (down_pos e)
        (λ h. le_of_mul-le-mul_right (le_trans (le_of_eq (sym q)) (leb-true (k * up g * down e) (n * up e * down g) h)) (down_pos g))
        (λ h. lt_of_not-le (λ l. not-le_of_lt (leb-false (k * up g * down e) (n * up e * down g) h) (le_trans (le_of_eq q) (mul-le-mul_right (down g) l)))) m

-- ---- 0 less a whole number
zero_less : (y : Float) (k : ℕ) → HasValue y false (suc k) 1 → fin false 0 (pos 0) ⊖ y ≡ round binary32 true (suc k) 1
unfolding sub sum
zero_less nan k v = absurd v
zero_less (inf t) k v = absurd v
zero_less (fin true m e) k v = absurd (true≢false v.0)
zero_less (fin false m e) k v =
    let b : 0 < m * up e * 1 = omega (arith, v.1, down_pos e) in
    let l : ltb (0 * 1 * down e) (m * up e * 1) ≡ true = lt-ltb (0 * 1 * down e) (m * up e * 1) (omega arith) in
    let c : (m * up e * 1 - 0 * 1 * down e) * 1 ≡ suc k * (1 * down e) = omega (arith, v.1) in
    rw l (round_same binary32 true (m * up e * 1 - 0 * 1 * down e) (1 * down e) (suc k) 1 (omega (arith, down_pos e)) (lit< tt) c)

pub zero_minus : (n : ℕ) → n ≤ 16777216 → fin false 0 (pos 0) ⊖ of_count n ≡ of_int binary32 (neg_ℤ (pos n))
unfolding of_int sub
zero_minus zero h = refl
zero_minus (suc k) h = zero_less (of_count (suc k)) k (count_value (suc k) h)

-- ---- a whole number with a sign
sign_put : (b : Bool) (k : ℕ) → k ≤ 16777216 → cond b (fin false 0 (pos 0) ⊖ of_count k) (of_count k) ≡ of_int binary32 (cond b (neg_ℤ (pos k)) (pos k))
sign_put true k h = zero_minus k h
sign_put false k h = refl

pub signed_float : (x m n : Float) → m ≡ float_with_sign false x → lt m (fin false 1 (pos 23)) ≡ true → n ≡ of_count (to_unsigned 64 m)
    → cond (lt x (of_bits binary32 0)) (of_bits binary32 0 ⊖ n) n ≡ of_int binary32 (to_signed 31 x)
unfolding of_bits
signed_float x m n e l q =
    let k = to_unsigned 64 m in
    let h : k ≤ 8388607 = whole_below m l in
    ap (λ (y : Float). cond (lt x (fin false 0 (pos 0))) (fin false 0 (pos 0) ⊖ y) y) q
    ∙ sign_put (lt x (fin false 0 (pos 0))) k (le_trans h (lit≤ tt))
    ∙ ap (of_int binary32) (signed_small x k (ap (to_unsigned 64) e) (ap (λ (y : Float). lt y (fin false 1 (pos 23))) (sym e) ∙ l))
