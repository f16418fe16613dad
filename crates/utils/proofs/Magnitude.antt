-- The magnitude of a word's float is the float of the word without its sign's bit, since both are read off the same fields.
use Rattle.std.proofs.Common.{◌≡◌, refl, ◌∙◌, Bool, true, false, cond, ℕ, zero, suc, ◌+◌, ◌/◌, ◌%◌, mod-lt, mod-eq_of_lt, leb, eqb}
use Rattle.std.proofs.lemmas.Bool.{lt-leb}
use Rattle.std.specs.Float.{float_with_sign}
use Rattle.std.specs.Float.Ieee.{nan, inf, binary32, odd, of_fields, of_bits}
use Rattle.std.proofs.Math.Dec.{lit<}
use Rattle.std.proofs.Math.Pow.{mod-mod-pow}
use Rattle.utils.specs.Utils.{abs_of}

abs_odd : (d : ℕ) (s : Bool) (q k l : ℕ) → abs_of (odd d s q k l) ≡ odd d false q k l
unfolding float_with_sign odd
abs_odd d s zero k l = refl
abs_odd d s (suc q) k l = refl

abs_fields : (s : Bool) (x t : ℕ) → abs_of (of_fields binary32 s x t) ≡ of_fields binary32 false x t
unfolding float_with_sign of_fields
abs_fields s zero t = abs_odd 24 s t 0 149
abs_fields s (suc x) t = pick (eqb (suc x) 255) (eqb t 0)
  where
    pick : (b d : Bool) → abs_of (cond b (cond d (inf s) nan) (odd 24 s (8388608 + t) x 149)) ≡ cond b (cond d (inf false) nan) (odd 24 false (8388608 + t) x 149)
    pick true true = refl
    pick true false = refl
    pick false d = abs_odd 24 s (8388608 + t) x 149

pub abs_word : (b : ℕ) → abs_of (of_bits binary32 b) ≡ of_bits binary32 (b % 2147483648)
unfolding of_bits
abs_word b =
    let l = mod-lt b {m = 2147483648} (lit< tt) in
    abs_fields (leb 2147483648 b) (b % 2147483648 / 8388608) (b % 8388608)
    ∙ rw (lt-leb 2147483648 (b % 2147483648) l, mod-eq_of_lt l, mod-mod-pow b 8 23)
