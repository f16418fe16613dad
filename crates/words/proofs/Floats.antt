-- What a test of a float or of a word says: which floats and which words are a NaN's.
use Rattle.std.proofs.Common.{◌≡◌, refl, sym, ap, ◌∙◌, subst, Bool, true, false, not, cond, true≢false, ℕ, zero, suc, ◌+◌, ◌/◌, ◌%◌, ◌≤◌, ◌<◌, ltb-false, leb-false, mod-eq_of_lt, T, leb, eqb, ℤ, Float}
use Rattle.std.proofs.Math.Bool.{false≢true}
use Rattle.std.specs.Float.Ieee.{nan, inf, fin, binary32, lt, is_nan, odd, of_fields, of_bits, to_bits, nan_bits, fits}
use Rattle.std.specs.Float.Ieee.Bits.{nan_bits_above, nan_bits_is, of_bits-to_bits, is_false}

-- a float above another is no NaN
pub above_no_nan : (y x : Float) → lt y x ≡ true → T (not (is_nan x))
unfolding lt is_nan
above_no_nan nan nan e = absurd (false≢true e)
above_no_nan (inf s) nan e = absurd (false≢true e)
above_no_nan (fin s m k) nan e = absurd (false≢true e)
above_no_nan y (inf s) e = tt
above_no_nan y (fin s m k) e = tt

of_minus : (b : ℕ) → leb 2147483648 b ≡ true → of_bits binary32 b ≡ of_fields binary32 true (b % 2147483648 / 8388608) (b % 8388608)
unfolding of_bits
of_minus b q = ap (λ (s : Bool). of_fields binary32 s (b % 2147483648 / 8388608) (b % 8388608)) q

-- ---- the word of a float above 0: the sign's bit is clear

minus_not_above : (m : ℕ) (e : ℤ) (d q k l : ℕ) → lt (fin false m e) (odd d true q k l) ≡ false
unfolding lt odd
minus_not_above m e d zero k l = refl
minus_not_above m e d (suc q) k l = refl

-- a float with the sign's bit set is above no float that has none
minus_fields : (m : ℕ) (e : ℤ) (x t : ℕ) → lt (fin false m e) (of_fields binary32 true x t) ≡ false
unfolding lt of_fields
minus_fields m e zero t = minus_not_above m e 24 t 0 149
minus_fields m e (suc x) t = pick (eqb (suc x) 255) (eqb t 0)
  where
    pick : (b d : Bool) → lt (fin false m e) (cond b (cond d (inf true) nan) (odd 24 true (8388608 + t) x 149)) ≡ false
    pick true true = refl
    pick true false = refl
    pick false d = minus_not_above m e 24 (8388608 + t) x 149

pub plus_word : (m : ℕ) (e : ℤ) (x : Float) → T (fits binary32 x) → lt (fin false m e) x ≡ true → to_bits binary32 x < 2147483648
plus_word m e x f h = go (leb 2147483648 (to_bits binary32 x)) refl
  where
    go : (b : Bool) → leb 2147483648 (to_bits binary32 x) ≡ b → to_bits binary32 x < 2147483648
    go false q = leb-false 2147483648 (to_bits binary32 x) q
    go true q =
        let b = to_bits binary32 x in
        let o : of_bits binary32 b ≡ of_fields binary32 true (b % 2147483648 / 8388608) (b % 8388608) = of_minus b q in
        absurd (true≢false (sym h ∙ ap (lt (fin false m e)) (sym (of_bits-to_bits binary32 x f) ∙ o) ∙ minus_fields m e (b % 2147483648 / 8388608) (b % 8388608)))

-- without the sign's bit, the word of a float that is no NaN is at most an infinity's
pub word_most : (x : Float) → T (fits binary32 x) → T (not (is_nan x)) → to_bits binary32 x % 2147483648 ≤ 2139095040
word_most x f h =
    let b = to_bits binary32 x in
    let n : nan_bits binary32 b ≡ false = nan_bits_is binary32 b ∙ ap is_nan (of_bits-to_bits binary32 x f) ∙ is_false (is_nan x) h in
    ltb-false 2139095040 (b % 2147483648) (sym (nan_bits_above binary32 b) ∙ n)

pub plus_word_most : (m : ℕ) (e : ℤ) (x : Float) → T (fits binary32 x) → lt (fin false m e) x ≡ true → to_bits binary32 x ≤ 2139095040
plus_word_most m e x f h =
    subst (λ (k : ℕ). k ≤ 2139095040) (mod-eq_of_lt (plus_word m e x f h)) (word_most x f (above_no_nan (fin false m e) x h))
