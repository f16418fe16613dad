-- The sine of a phase from 0 to below 8192 by one whole part, that of 512 times the phase: the fraction of the phase, its product with 512 and the
-- product of the phase with 512 are exact, so the entry is the whole part modulo 512 and both fractions are the same number, rounded.
use Rattle.std.specs.Prelude.{◌≡◌, ℕ, zero, suc, ◌+◌, ◌-◌, ◌*◌, ◌/◌, ◌%◌, ◌^◌, ◌<◌, ◌≤◌, Bool, true, false, ◌&&◌, T, eqb, ltb, leb, ℤ, pos, negsuc}
use Rattle.std.proofs.Common.{refl, sym, ap, ◌∙◌, subst, mul_assoc, mul_right_comm, mul-one, one-mul, mul-le-mul_right, mod-lt, mod-eq_of_lt, le_trans, lt_of_le_of_lt, lt_of_lt_of_le, le_of_lt, le_of_eq, not-le_of_lt, zero-mul, div-add-mod', div-lt_iff_lt-mul, arith, ltb-true, le-ltb, leb-true, leb-false, lit<, lit≤, ltb→lt, leb→le, eqb→eq, pow-add, pow_pos, pow_mono, shl_lt, Float}
use Rattle.std.proofs.Math.Bool.{false≢true}
use Rattle.std.proofs.Math.Nat.{mod-le, mod-one, mul-add-div_right, mul-add-mod_self_right, min-eq_left}
use Rattle.std.proofs.Math.Pow.{pow-lt}
use Rattle.std.specs.Float.Ieee.{nan, inf, fin, binary32, up, down, lt, fits, round, of_int}
use Rattle.std.specs.Float.Ieee.Fits.{and_l, and_r}
use Rattle.std.specs.Float.Ieee.Exact.{HasValue, round_exact}
use Rattle.words.specs.Binary32.{◌⊖◌, ◌⊗◌, decimal, of_count}
use Rattle.words.specs.Parts.{part_of, whole_part, whole_i32_float}
use Rattle.words.proofs.Values.{mul_at, fraction_at, not_below_at}
use Rattle.words.proofs.WholeParts.{whole_at, signed_at}
use Rattle.utils.specs.Utils.{clamp_of}

-- r / 2 ^ s with fewer than 25 digits, i places up: exact
pub exact : (r i s : ℕ) → r < 16777216 → s ≤ 149 → i ≤ 100 → HasValue (round binary32 false (r * 2 ^ i) (2 ^ s)) false (r * 2 ^ i) (2 ^ s)
exact r i s l m n =
    let k : i + 149 ≡ i + (149 - s) + s = omega arith in
    round_exact binary32 false (r * 2 ^ i) (2 ^ s) r (i + (149 - s)) (pow_pos s) l
    (lt_of_lt_of_le (shl_lt 24 (i + (149 - s)) l) (pow_mono {i = 24 + (i + (149 - s))} {j = 277} (omega arith)))
    (mul_assoc r (2 ^ i) (2 ^ 149)
    ∙ ap (λ (z : ℕ). r * z) (sym (pow-add 2 i 149) ∙ ap (λ (z : ℕ). 2 ^ z) k ∙ pow-add 2 (i + (149 - s)) s)
    ∙ sym (mul_assoc r (2 ^ (i + (149 - s))) (2 ^ s)))

-- a number P / D with D a power of two, whose own digits and whose fraction's are few
pub record Few (P D : ℕ) : Type 0 where
  pub places : ℕ
  pub places_most : places ≤ 149
  pub power : D ≡ 2 ^ places
  pub fraction_few : P % D < 16777216
  pub digits : ℕ
  pub above : ℕ
  pub above_most : above ≤ 20
  pub digits_few : digits < 16777216
  pub is : P ≡ digits * 2 ^ above

module _ (p : Float) (P D : ℕ) (few : Few P D) (v : HasValue p false P D) (below : P < 8192 * D) where
  d_pos : 0 < D
  d_pos = subst (λ (n : ℕ). 0 < n) (sym few.power) (pow_pos few.places)

  r_less : P % D < D
  r_less = mod-lt P d_pos

  whole_few : P / D < 8192
  whole_few = (div-lt_iff_lt-mul d_pos).1 below

  rounded : (r i : ℕ) → r < 16777216 → i ≤ 100 → HasValue (round binary32 false (r * 2 ^ i) D) false (r * 2 ^ i) D
  rounded r i l m =
      subst (λ (n : ℕ). HasValue (round binary32 false (r * 2 ^ i) n) false (r * 2 ^ i) n) (sym few.power) (exact r i few.places l few.places_most m)

  -- the fraction of the phase
  fraction_value : HasValue (round binary32 false (P % D) D) false (P % D) D
  fraction_value = subst (λ (n : ℕ). HasValue (round binary32 false n D) false n D) (mul-one (P % D)) (rounded (P % D) 0 few.fraction_few (lit≤ tt))

  whole_i32 : whole_i32_float p ≡ of_count (P / D)
  whole_i32 = ap (of_int binary32) (signed_at 31 p P D d_pos v ∙ ap pos (min-eq_left (le_of_lt (lt_of_lt_of_le whole_few (lit≤ tt)))))

  wrapped : clamp_of (p ⊖ whole_i32_float p) (decimal 0 0) (decimal 1 0) ≡ round binary32 false (P % D) D
  unfolding decimal
  wrapped =
      let q = round binary32 false (P % D) D in
      let e : p ⊖ whole_i32_float p ≡ q = ap (λ (x : Float). p ⊖ x) whole_i32 ∙ fraction_at p P D d_pos v (le_of_lt (lt_of_lt_of_le whole_few (lit≤ tt))) in
      let l : lt q (fin false 0 (pos 0)) ≡ false = not_below_at q (fin false 0 (pos 0)) (P % D) D 0 1 d_pos (lit< tt) fraction_value (refl, refl) (omega arith) in
      let h : lt (fin false 1 (pos 0)) q ≡ false = not_below_at (fin false 1 (pos 0)) q 1 1 (P % D) D (lit< tt) d_pos (refl, refl) fraction_value (omega (arith, r_less)) in
      rw (e, l, h)

  times : (x : Float) (a : ℕ) → HasValue x false a D → x ⊗ decimal 512 0 ≡ round binary32 false (a * 512) D
  unfolding decimal
  times x a w = mul_at x (fin false 1 (pos 9)) a D 512 1 d_pos (lit< tt) w (refl, refl) ∙ ap (round binary32 false (a * 512)) (mul-one D)

  -- 512 times the fraction, and 512 times the phase
  far_value : HasValue (round binary32 false (P % D * 512) D) false (P % D * 512) D
  far_value = rounded (P % D) 9 few.fraction_few (lit≤ tt)

  near_value : HasValue (round binary32 false (P * 512) D) false (P * 512) D
  near_value =
      let e : few.digits * 2 ^ (few.above + 9) ≡ P * 512 =
      ap (λ (n : ℕ). few.digits * n) (pow-add 2 few.above 9)
      ∙ sym (mul_assoc few.digits (2 ^ few.above) 512) ∙ ap (λ (n : ℕ). n * 512) (sym few.is) in
      let m : few.above + 9 ≤ 100 = omega (arith, few.above_most) in
      subst (λ (n : ℕ). HasValue (round binary32 false n D) false n D) e (rounded few.digits (few.above + 9) few.digits_few m)

  split : P * 512 ≡ P / D * 512 * D + P % D * 512
  split =
      let e : P / D * D + P % D ≡ P = div-add-mod' P D in
      let f : P / D * 512 * D ≡ P / D * D * 512 = mul_right_comm (P / D) 512 D in
      omega arith

  entry_less : P % D * 512 / D < 512
  entry_less = (div-lt_iff_lt-mul d_pos).1 (omega (arith, r_less))

  -- the entry, and the fraction between it and the next
  pub entry_is : P * 512 / D % 512 ≡ P % D * 512 / D
  entry_is =
      ap (λ (n : ℕ). n / D % 512) split
      ∙ ap (λ (n : ℕ). n % 512) (mul-add-div_right d_pos (P / D * 512) (P % D * 512))
      ∙ mul-add-mod_self_right (P / D) 512 (P % D * 512 / D)
      ∙ mod-eq_of_lt entry_less

  fraction_is : P * 512 % D ≡ P % D * 512 % D
  fraction_is = ap (λ (n : ℕ). n % D) split ∙ mul-add-mod_self_right (P / D * 512) D (P % D * 512)

  part_at : (top : ℕ) (x : Float) (a : ℕ) → HasValue x false a D → a / D ≤ top → top ≤ 16777216 → part_of top x ≡ record { whole = a / D; fraction = round binary32 false (a % D) D; held = false }
  unfolding part_of
  part_at top x a w h m =
      let e : whole_part x ≡ a / D = whole_at 64 x a D d_pos w ∙ min-eq_left (le_trans h (le_trans m (lit≤ tt))) in
      rw (e, min-eq_left h, fraction_at x a D d_pos w (le_trans h m), le-ltb top (a / D) h)

  near_most : P * 512 / D ≤ 8388606
  near_most = le_of_lt (lt_of_lt_of_le ((div-lt_iff_lt-mul {k = D} {x = P * 512} {y = 4194304} d_pos).1 (omega arith)) (lit≤ tt))

  pub near_whole : (part_of 8388606 (p ⊗ decimal 512 0)).whole % 512 ≡ (part_of 639 (clamp_of (p ⊖ whole_i32_float p) (decimal 0 0) (decimal 1 0) ⊗ decimal 512 0)).whole
  near_whole =
      rw (
        wrapped,
        times p P v,
        times _ (P % D) fraction_value,
        part_at 8388606 _ (P * 512) near_value near_most (lit≤ tt),
        part_at 639 _ (P % D * 512) far_value (le_trans (le_of_lt entry_less) (lit≤ tt)) (lit≤ tt),
      )
      entry_is

  pub near_fraction : (part_of 8388606 (p ⊗ decimal 512 0)).fraction ≡ (part_of 639 (clamp_of (p ⊖ whole_i32_float p) (decimal 0 0) (decimal 1 0) ⊗ decimal 512 0)).fraction
  near_fraction =
      rw (
        wrapped,
        times p P v,
        times _ (P % D) fraction_value,
        part_at 8388606 _ (P * 512) near_value near_most (lit≤ tt),
        part_at 639 _ (P % D * 512) far_value (le_trans (le_of_lt entry_less) (lit≤ tt)) (lit≤ tt),
      )
      (ap (λ (n : ℕ). round binary32 false n D) fraction_is)

-- ---- every float from 0 to below 8192 has few digits
power_most : (i j : ℕ) → 2 ^ i ≤ 2 ^ j → i ≤ j
power_most i j h = go (leb i j) refl
  where
    go : (b : Bool) → leb i j ≡ b → i ≤ j
    go true e = leb-true i j e
    go false e = absurd (not-le_of_lt (pow-lt (leb-false i j e)) h)

second : (a b c d : Bool) → T (a && b && c && d) → T b
second a b c d t = and_r a b (and_l (a && b) c (and_l (a && b && c) d t))

third : (a b c d : Bool) → T (a && b && c && d) → T c
third a b c d t = and_r (a && b) c (and_l (a && b && c) d t)

digits_lt : (m : ℕ) (e : ℤ) → T (fits binary32 (fin false (suc m) e)) → suc m < 16777216
unfolding fits
digits_lt m e f = ltb→lt (suc m) 16777216 (second (eqb (suc m % 2) 1) (ltb (suc m) 16777216) (leb (down e) (2 ^ 149)) (ltb (suc m * up e) (2 ^ 128 * down e)) f)

down_most : (m : ℕ) (e : ℤ) → T (fits binary32 (fin false (suc m) e)) → down e ≤ 2 ^ 149
unfolding fits
down_most m e f = leb→le (down e) (2 ^ 149) (third (eqb (suc m % 2) 1) (ltb (suc m) 16777216) (leb (down e) (2 ^ 149)) (ltb (suc m * up e) (2 ^ 128 * down e)) f)

few_zero : (e : ℤ) → T (fits binary32 (fin false 0 e)) → Few (0 * up e) (down e)
unfolding fits
few_zero (pos k) f =
    record {
      places = 0;
      places_most = lit≤ tt;
      power = refl;
      fraction_few = rw (mod-one) (lit< tt);
      digits = 0;
      above = 0;
      above_most = lit≤ tt;
      digits_few = lit< tt;
      is = zero-mul (2 ^ k);
    }
few_zero (negsuc k) f =
    let e : 1 * 2 ^ suc k ≡ 1 = eqb→eq (1 * 2 ^ suc k) 1 f in
    let l : 2 ^ 1 ≤ 2 ^ suc k = pow_mono {i = 1} {j = suc k} (omega arith) in
    absurd (omega arith)

few_more : (m : ℕ) (e : ℤ) → T (fits binary32 (fin false (suc m) e)) → suc m * up e < 8192 * down e → Few (suc m * up e) (down e)
few_more m (pos k) f h =
    let n : 2 ^ k ≤ 2 ^ 13 = le_of_lt (lt_of_le_of_lt (le_trans (le_of_eq (sym (one-mul (2 ^ k)))) (mul-le-mul_right {m = 1} {n = suc m} (2 ^ k) (omega arith))) h) in
    record {
      places = 0;
      places_most = lit≤ tt;
      power = refl;
      fraction_few = rw (mod-one) (lit< tt);
      digits = suc m;
      above = k;
      above_most = le_trans (power_most k 13 n) (lit≤ tt);
      digits_few = digits_lt m (pos k) f;
      is = refl;
    }
few_more m (negsuc k) f h =
    record {
      places = suc k;
      places_most = power_most (suc k) 149 (down_most m (negsuc k) f);
      power = refl;
      fraction_few = lt_of_le_of_lt (mod-le (suc m * 1) (2 ^ suc k)) (omega (arith, digits_lt m (negsuc k) f));
      digits = suc m;
      above = 0;
      above_most = lit≤ tt;
      digits_few = digits_lt m (negsuc k) f;
      is = refl;
    }

few_of : (m : ℕ) (e : ℤ) → T (fits binary32 (fin false m e)) → m * up e < 8192 * down e → Few (m * up e) (down e)
few_of zero e f h = few_zero e f
few_of (suc m) e f h = few_more m e f h

-- ---- the reading by one whole part is the sine's own
pub near : (p : Float) → T (fits binary32 p) → lt (fin false 0 (pos 0)) p ≡ true → lt p (fin false 1 (pos 13)) ≡ true
    → ((part_of 8388606 (p ⊗ decimal 512 0)).whole % 512 ≡ (part_of 639 (clamp_of (p ⊖ whole_i32_float p) (decimal 0 0) (decimal 1 0) ⊗ decimal 512 0)).whole)
    × ((part_of 8388606 (p ⊗ decimal 512 0)).fraction ≡ (part_of 639 (clamp_of (p ⊖ whole_i32_float p) (decimal 0 0) (decimal 1 0) ⊗ decimal 512 0)).fraction)
unfolding lt
near nan f a b = absurd (false≢true b)
near (inf true) f a b = absurd (false≢true a)
near (inf false) f a b = absurd (false≢true b)
near (fin true m e) f a b = absurd (false≢true a)
near (fin false m e) f a b =
    let h : m * up e < 8192 * down e = omega (arith, ltb-true (m * up e * 1) (1 * 8192 * down e) b) in
    let w = few_of m e f h in
    (near_whole (fin false m e) (m * up e) (down e) w (refl, refl) h, near_fraction (fin false m e) (m * up e) (down e) w (refl, refl) h)
