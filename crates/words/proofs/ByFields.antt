-- Whole parts by the three fields of a word: a magnitude that is cut off is the significand, shifted as the exponent says.
use Rattle.std.proofs.Common.{◌≡◌, refl, sym, ap, ◌∙◌, subst, Bool, true, false, not, ◌||◌, cond, ℕ, zero, suc, ◌+◌, ◌-◌, ◌*◌, ◌/◌, ◌%◌, ◌^◌, ◌≤◌, ◌<◌, min, le_trans, le_of_eq, lt_of_lt_of_le, mul-one, mul_assoc, mul-le-mul_right, div-one, div-lt_iff_lt-mul, le-div_iff_mul-le, mod-lt, arith, ltb-true, ltb-false, leb-true, leb-false, eq-eqb, ne_eqb, T, leb, ltb, eqb, lit<, lit≤, pos, neg_ℤ, pow-add, pow_pos, pow_mono, shl_lt, Float}
use Rattle.std.proofs.Math.Nat.{min-eq_left, min-eq_right}
use Rattle.std.specs.Float.Ieee.{nan, inf, binary32, fits, of_fields, of_bits, to_bits, of_int, to_unsigned, to_signed}
use Rattle.std.specs.Float.Ieee.Bits.{of_bits-to_bits, to_bits-lt}
use Rattle.std.specs.Float.Ieee.Exact.{HasValue, odd_sign}
use Rattle.std.specs.Float.Ieee.Nearest.{div_same}
use Rattle.words.specs.Binary32.{◌⊖◌, of_count}
use Rattle.words.specs.Parts.{part_of}
use Rattle.words.specs.Fields.{sign_of, biased_exponent, trailing_significand, whole_magnitude, unsigned_whole, signed_whole, ByFields, EveryWord, EveryFloat}
use Rattle.words.proofs.WholeParts.{unsigned_at, signed_at_sign}

-- ---- the value of a float by its fields, where E is no infinity's or NaN's
pub not_special : (e below : ℕ) → e < below → below ≤ 255 → eqb e 255 ≡ false
not_special e below h l = ne_eqb e 255 (λ q. absurd (omega arith))

-- the magnitude in units of 2 ^ -149, the smallest positive binary32
abbrev pub units : ℕ → ℕ → ℕ
units zero t = t * 2 ^ 0
units (suc e) t = (8388608 + t) * 2 ^ e

pub value : (s : Bool) (e t : ℕ) → e < 255 → HasValue (of_fields binary32 s e t) s (units e t) (2 ^ 149)
unfolding of_fields
value s zero t h = odd_sign 24 s t 0 149
value s (suc e) t h = rw (not_special (suc e) 255 h (lit≤ tt)) (odd_sign 24 s (8388608 + t) e 149)

-- ---- how large it is
pub units_few : (j e t : ℕ) → t < 8388608 → 23 + e ≤ j → units e t < 2 ^ j
units_few j zero t k l = lt_of_lt_of_le (shl_lt 23 0 k) (pow_mono l)
units_few j (suc e) t k l =
    let q : 8388608 + t < 2 ^ 24 = omega arith in
    lt_of_lt_of_le (shl_lt 24 e q) (pow_mono {i = 24 + e} {j = j} (omega arith))

units_below : (h e t : ℕ) → t < 8388608 → e < 127 + h → units e t / 2 ^ 149 < 2 ^ h
units_below h e t k l = (div-lt_iff_lt-mul (pow_pos 149)).1 (subst (λ (x : ℕ). units e t < x) (pow-add 2 h 149) (units_few (h + 149) e t k (omega arith)))

pub units_above : (h e t : ℕ) → 127 + h ≤ e → 2 ^ h ≤ units e t / 2 ^ 149
units_above h zero t l = absurd (omega arith)
units_above h (suc e) t l =
    let p : 2 ^ (h + 149) ≤ 2 ^ (23 + e) = pow_mono {i = h + 149} {j = 23 + e} (omega arith) in
    let q : 2 ^ 23 * 2 ^ e ≤ (8388608 + t) * 2 ^ e = mul-le-mul_right (2 ^ e) (omega arith) in
    (le-div_iff_mul-le (pow_pos 149)).1 (le_trans (le_of_eq (sym (pow-add 2 h 149))) (le_trans p (le_trans (le_of_eq (pow-add 2 23 e)) q)))

-- ---- cut off, it is the significand shifted
pub right : (q e : ℕ) → suc e ≤ 150 → q * 2 ^ e / 2 ^ 149 ≡ q / 2 ^ (150 - suc e)
right q e l =
    let d : e + (150 - suc e) ≡ 149 = omega arith in
    div_same (q * 2 ^ e) (2 ^ 149) q (2 ^ (150 - suc e)) (pow_pos 149) (pow_pos (150 - suc e))
    (mul_assoc q (2 ^ e) (2 ^ (150 - suc e)) ∙ ap (λ (x : ℕ). q * x) (sym (pow-add 2 e (150 - suc e))) ∙ ap (λ (x : ℕ). q * 2 ^ x) d)

left : (q e : ℕ) → 150 < suc e → q * 2 ^ e / 2 ^ 149 ≡ q * 2 ^ (suc e - 150)
left q e l =
    let d : suc e - 150 + 149 ≡ e = omega arith in
    div_same (q * 2 ^ e) (2 ^ 149) (q * 2 ^ (suc e - 150)) 1 (pow_pos 149) (lit< tt)
    (mul-one (q * 2 ^ e) ∙ sym (mul_assoc q (2 ^ (suc e - 150)) (2 ^ 149) ∙ ap (λ (x : ℕ). q * x) (sym (pow-add 2 (suc e - 150) 149)) ∙ ap (λ (x : ℕ). q * 2 ^ x) d))
    ∙ div-one (q * 2 ^ (suc e - 150))

none : (n : ℕ) → n < 1 → n ≡ 0
none n h = omega arith

cut : (e t : ℕ) → t < 8388608 → units e t / 2 ^ 149 ≡ whole_magnitude e t
unfolding whole_magnitude
cut zero t k = none (t * 2 ^ 0 / 2 ^ 149) (units_below 0 0 t k (lit< tt))
cut (suc e) t k = go (ltb (suc e) 127) refl (leb (suc e) 150) refl
  where
    go : (a : Bool) → ltb (suc e) 127 ≡ a → (b : Bool) → leb (suc e) 150 ≡ b
        → (8388608 + t) * 2 ^ e / 2 ^ 149 ≡ cond a 0 (cond b ((8388608 + t) / 2 ^ (150 - suc e)) ((8388608 + t) * 2 ^ (suc e - 150)))
    go true p b r = none ((8388608 + t) * 2 ^ e / 2 ^ 149) (units_below 0 (suc e) t k (ltb-true (suc e) 127 p))
    go false p true r = right (8388608 + t) e (leb-true (suc e) 150 r)
    go false p false r = left (8388608 + t) e (leb-false (suc e) 150 r)

-- so a magnitude is below 2 ^ h just where E is below 127 + h
pub magnitude_below : (h e t : ℕ) → t < 8388608 → e < 127 + h → whole_magnitude e t < 2 ^ h
magnitude_below h e t k l = subst (λ (x : ℕ). x < 2 ^ h) (cut e t k) (units_below h e t k l)

magnitude_above : (h e t : ℕ) → t < 8388608 → 127 + h ≤ e → 2 ^ h ≤ whole_magnitude e t
magnitude_above h e t k l = subst (λ (x : ℕ). 2 ^ h ≤ x) (cut e t k) (units_above h e t l)

-- ---- saturation: cut at `top`, which is 2 ^ h or one below it
at_most : (n p top : ℕ) → n < p → p ≤ top + 1 → min n top ≡ n
at_most n p top k l = min-eq_left (omega arith)

saturates : (h e t top : ℕ) → t < 8388608 → 2 ^ h ≤ top + 1 → top ≤ 2 ^ h → min (units e t / 2 ^ 149) top ≡ cond (ltb e (127 + h)) (whole_magnitude e t) top
saturates h e t top k a b = ap (λ (x : ℕ). min x top) (cut e t k) ∙ go (ltb e (127 + h)) refl
  where
    go : (c : Bool) → ltb e (127 + h) ≡ c → min (whole_magnitude e t) top ≡ cond c (whole_magnitude e t) top
    go true p = at_most (whole_magnitude e t) (2 ^ h) top (magnitude_below h e t k (ltb-true e (127 + h) p)) a
    go false p = min-eq_right (le_trans b (magnitude_above h e t k (ltb-false e (127 + h) p)))

-- ---- the float of three fields
-- a sign put on before or after saturation
signs : (b a : Bool) (n least most : ℕ) → cond b (neg_ℤ (pos (cond a n least))) (pos (cond a n most)) ≡ cond a (cond b (neg_ℤ (pos n)) (pos n)) (cond b (neg_ℤ (pos least)) (pos most))
signs true true n least most = refl
signs true false n least most = refl
signs false true n least most = refl
signs false false n least most = refl

-- both whole parts of x are those of the three fields
abbrev Same : ℕ → ℕ → ℕ → Float → Type 0
Same S e t x = (to_unsigned 64 x ≡ unsigned_whole S e t) × (to_signed 31 x ≡ signed_whole S e t)

-- E below 255: a finite number
finite : (S e t : ℕ) (s : Bool) → eqb S 1 ≡ s → e < 255 → t < 8388608 → Same S e t (of_fields binary32 s e t)
unfolding unsigned_whole signed_whole
finite S e t s p h k = rw (not_special e 255 h (lit≤ tt), p) (unsigned s, to_i32 s)
  where
    cut_at : (w top : ℕ) → 2 ^ w ≤ top + 1 → top ≤ 2 ^ w → min (units e t / 2 ^ 149) top ≡ cond (ltb e (127 + w)) (whole_magnitude e t) top
    cut_at w top a b = saturates w e t top k a b

    unsigned : (b : Bool) → to_unsigned 64 (of_fields binary32 b e t) ≡ cond (b || false) 0 (cond (ltb e 191) (whole_magnitude e t) 18446744073709551615)
    unsigned true = unsigned_at 64 _ true _ _ (pow_pos 149) (value true e t h)
    unsigned false = unsigned_at 64 _ false _ _ (pow_pos 149) (value false e t h) ∙ cut_at 64 18446744073709551615 (lit≤ tt) (lit≤ tt)

    to_i32 : (b : Bool)
        → to_signed 31 (of_fields binary32 b e t)
        ≡ cond (ltb e 158) (cond b (neg_ℤ (pos (whole_magnitude e t))) (pos (whole_magnitude e t))) (cond b (neg_ℤ (pos 2147483648)) (pos 2147483647))
    to_i32 b =
        signed_at_sign 31 _ b _ _ (pow_pos 149) (value b e t h)
        ∙ ap (λ (n : ℕ). cond b (neg_ℤ (pos n)) (pos (min (units e t / 2 ^ 149) 2147483647))) (cut_at 31 2147483648 (lit≤ tt) (lit≤ tt))
        ∙ ap (λ (n : ℕ). cond b (neg_ℤ (pos (cond (ltb e 158) (whole_magnitude e t) 2147483648))) (pos n)) (cut_at 31 2147483647 (lit≤ tt) (lit≤ tt))
        ∙ signs b (ltb e 158) (whole_magnitude e t) 2147483648 2147483647

-- E of 255: an infinity or a NaN
special : (S t : ℕ) (s : Bool) → eqb S 1 ≡ s → Same S 255 t (of_fields binary32 s 255 t)
unfolding unsigned_whole signed_whole of_fields to_unsigned to_signed
special S t s p = rw p (go s (eqb t 0))
  where
    go : (b z : Bool)
        → (to_unsigned 64 (cond z (inf b) nan) ≡ cond (b || not z) 0 18446744073709551615)
        × (to_signed 31 (cond z (inf b) nan) ≡ cond (not z) (pos 0) (cond b (neg_ℤ (pos 2147483648)) (pos 2147483647)))
    go true true = (refl, refl)
    go true false = (refl, refl)
    go false true = (refl, refl)
    go false false = (refl, refl)

of_fields_lem : (S e t : ℕ) (s : Bool) → eqb S 1 ≡ s → e < 256 → t < 8388608 → Same S e t (of_fields binary32 s e t)
of_fields_lem S e t s p h k = go (ltb e 255) refl
  where
    go : (b : Bool) → ltb e 255 ≡ b → Same S e t (of_fields binary32 s e t)
    go true q = finite S e t s p (ltb-true e 255 q) k
    go false q =
        let g : 255 ≤ e = ltb-false e 255 q in
        let l : 255 ≡ e = omega arith in
        subst (λ (x : ℕ). Same S x t (of_fields binary32 s x t)) l (special S t s p)

-- ---- the float of a word
signed_bit : (w : ℕ) → w < 4294967296 → eqb (w / 2147483648) 1 ≡ leb 2147483648 w
signed_bit w h = go (leb 2147483648 w) refl
  where
    go : (b : Bool) → leb 2147483648 w ≡ b → eqb (w / 2147483648) 1 ≡ b
    go true p =
        let g : 2147483648 ≤ w = leb-true 2147483648 w p in
        eq-eqb (w / 2147483648) 1 (omega arith)
    go false p =
        let g : w < 2147483648 = leb-false 2147483648 w p in
        ne_eqb (w / 2147483648) 1 (λ q. absurd (omega arith))

exponent_is : (w : ℕ) → w % 2147483648 / 8388608 ≡ w / 8388608 % 256
exponent_is w = omega arith

read_by_fields : (w : ℕ) → w < 4294967296 → Same (sign_of w) (biased_exponent w) (trailing_significand w) (of_bits binary32 w)
unfolding of_bits
read_by_fields w h =
    subst (λ (e : ℕ). Same (w / 2147483648) (w / 8388608 % 256) (w % 8388608) (of_fields binary32 (leb 2147483648 w) e (w % 8388608))) (sym (exponent_is w))
    (of_fields_lem (w / 2147483648) (w / 8388608 % 256) (w % 8388608) (leb 2147483648 w) (signed_bit w h) (mod-lt (w / 8388608) (lit< tt)) (mod-lt w (lit< tt)))

-- ---- the claim, for every word, and for every float by its word
pub every_word : EveryWord
unfolding part_of
every_word w h =
    let r = read_by_fields w h in
    record {
      made_up = omega arith;
      unsigned = r.0;
      to_i32 = r.1;
      float = ap of_count r.0;
      i32_float = ap (of_int binary32) r.1;
      whole = λ top. ap (λ (n : ℕ). min n top) r.0;
      fraction = λ top. ap (λ (n : ℕ). of_bits binary32 w ⊖ of_count (min n top)) r.0;
      held = λ top. ap (ltb top) r.0;
    }

pub of_float : (x : Float) → T (fits binary32 x) → ByFields x (to_bits binary32 x)
of_float x f = subst (λ (y : Float). ByFields y (to_bits binary32 x)) (of_bits-to_bits binary32 x f) (every_word (to_bits binary32 x) (to_bits-lt binary32 x f))

pub every_float : EveryFloat
every_float x f = of_float x (subst T (sym f) tt)
