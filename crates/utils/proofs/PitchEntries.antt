-- No note leads past the pitch tables: for every float whatsoever both entries that `note_to_frequency` reads are among the 256.
-- A clamped note plus 128 is NaN, or a rounded number from 0 to 255; what its whole part leaves is exact and below 1, and so is 256 times that, below 256.
use Rattle.std.proofs.Common.{◌≡◌, sym, ap, subst, ◌∙◌, ◌⊎◌, inl, inr, Bool, true, false, cond, ◌&&◌, true≢false, List, ℕ, zero, suc, ◌+◌, ◌-◌, ◌*◌, ◌/◌, ◌%◌, ◌^◌, ◌≤◌, ◌<◌, zero-le, zero-lt-suc, le_trans, le_of_eq, lt_of_lt_of_le, lt_of_le_of_lt, lt_of_not-le, not-le_of_lt, le_of_suc-le-suc, mul_assoc, mul_comm, mul-one, zero-mul, mod-lt, div-lt_iff_lt-mul, mul-lt-mul_of_pos_right, lt_of_mul-lt-mul_right, arith, ltb-false, T, ltb, eqb, leb, leb→le, ltb→lt, lt→ltb, lit≤, ℤ, pos, negsuc, get_or, pow-add, pow_pos, Float}
use Rattle.std.proofs.Math.Path.{refl}
use Rattle.std.proofs.Math.Nat.{min-le_left, min-eq_left, mod-le, mod-one, zero-mod}
use Rattle.std.proofs.Math.Dec.{lit<}
use Rattle.std.proofs.Math.Pow.{pow-lt}
use Rattle.std.specs.Float.Ieee.{nan, inf, fin, binary32, up, down, neg, lt, le, size, odd, units, round, sum, add, sub, mul, fits, to_unsigned}
use Rattle.std.specs.Float.Ieee.Nearest.{closest}
use Rattle.std.specs.Float.Ieee.Digits.{back}
use Rattle.std.specs.Float.Ieee.Exact.{HasValue, round_exact}
use Rattle.std.specs.Float.Ieee.Fits.{down_pos, round-fits, and_l, and_r}
use Rattle.std.specs.Float.Ieee.Order.{round_mono}
use Rattle.std.specs.Float.Ieee.Positive.{le→cross}
use Rattle.words.specs.Binary32.{◌⊕◌, ◌⊖◌, ◌⊗◌, decimal}
use Rattle.words.specs.Parts.{whole_part, whole_float}
use Rattle.words.proofs.Values.{own, mul_at, fraction_at}
use Rattle.words.proofs.WholeParts.{whole_at}
use Rattle.utils.specs.Utils.{clamp_of}
use Rattle.utils.specs.Units.{semitones_to_ratio, note_to_frequency}

-- ---- a rounded number that is at most 255
record Pitch (x : Float) : Type 0 where
  pub m : ℕ
  pub e : ℤ
  pub is : x ≡ fin false m e
  pub fit : T (fits binary32 (fin false m e))
  pub most : m * up e ≤ 255 * down e

-- what is rounded with no sign has none
abbrev Unsigned : Float → Type 0
Unsigned nan = ⊥
Unsigned (inf s) = s ≡ false
Unsigned (fin s m e) = s ≡ false

odd_unsigned : (d q k l : ℕ) → Unsigned (odd d false q k l)
unfolding odd
odd_unsigned d zero k l = refl
odd_unsigned d (suc q) k l = refl

round_unsigned : (a c : ℕ) → Unsigned (round binary32 false a c)
unfolding round units
round_unsigned a c =
    let n = a * 2 ^ 149 in
    let k = size (n / c) - 24 in
    let u = c * 2 ^ k in
    let q = closest n u in
    pick q k (ltb (q * 2 ^ k) (2 ^ 277))
  where
    pick : (q k : ℕ) (b : Bool) → Unsigned (cond b (odd 25 false q k 149) (inf false))
    pick q k true = odd_unsigned 25 q k 149
    pick q k false = refl

pitch_of : (x : Float) → T (fits binary32 x) → Unsigned x → T (le x (fin false 255 (pos 0))) → Pitch x
unfolding le
pitch_of nan f s h = absurd s
pitch_of (inf true) f s h = absurd (true≢false s)
pitch_of (inf false) f s h = absurd h
pitch_of (fin true m e) f s h = absurd (true≢false s)
pitch_of (fin false zero e) f s h = record { m = 0; e = e; is = refl; fit = f; most = rw (zero-mul (up e)) zero-le }
pitch_of (fin false (suc m) e) f s h =
    let c : suc m * up e * 1 ≤ 255 * 1 * down e = le→cross (fin false (suc m) e) (fin false 255 (pos 0)) (lt→ltb 0 (suc m) (zero-lt-suc m)) tt h in
    record { m = suc m; e = e; is = refl; fit = f; most = omega arith }

rounded : (a c : ℕ) → 0 < c → a ≤ 255 * c → Pitch (round binary32 false a c)
rounded a c p h = pitch_of (round binary32 false a c) (round-fits binary32 false a c) (round_unsigned a c) (unfold round in round_mono binary32 a c 255 1 p (lit< tt) (omega arith))

-- ---- a clamped note plus 128 is such a number, or NaN
abbrev Raised : Float → Type 0
Raised x = (add binary32 x (fin false 1 (pos 7)) ≡ nan) ⊎ Pitch (add binary32 x (fin false 1 (pos 7)))

from_clamped : (x : Float) → lt x (fin true 1 (pos 7)) ≡ false → lt (fin false 127 (pos 0)) x ≡ false → Raised x
unfolding lt add sum
from_clamped nan a b = inl refl
from_clamped (inf true) a b = absurd (true≢false a)
from_clamped (inf false) a b = absurd (true≢false b)
from_clamped (fin false m e) a b =
    let l = ltb-false (127 * 1 * down e) (m * up e * 1) b in
    inr (rounded (m * up e * 1 + 1 * 128 * down e) (down e * 1) (omega (arith, down_pos e)) (omega arith))
from_clamped (fin true m e) a b = inr (go (ltb (m * up e * 1) (1 * 128 * down e)) (ltb (1 * 128 * down e) (m * up e * 1)) a)
  where
    go : (p q : Bool) → q ≡ false
        → Pitch (cond p (round binary32 false (1 * 128 * down e - m * up e * 1) (down e * 1)) (round binary32 (true && q) (m * up e * 1 - 1 * 128 * down e) (down e * 1)))
    go true q z = rounded (1 * 128 * down e - m * up e * 1) (down e * 1) (omega (arith, down_pos e)) (omega arith)
    go false true z = absurd (true≢false z)
    go false false z =
        let l = ltb-false (1 * 128 * down e) (m * up e * 1) a in
        rounded (m * up e * 1 - 1 * 128 * down e) (down e * 1) (omega (arith, down_pos e)) (omega arith)

-- the number that both entries follow from
abbrev pitch : Float → Float
pitch note = clamp_of (note ⊖ decimal 9 0) (neg (decimal 128 0)) (decimal 127 0) ⊕ decimal 128 0

pitch_in : (note : Float) → (pitch note ≡ nan) ⊎ Pitch (pitch note)
unfolding decimal neg
pitch_in note = clamped (note ⊖ decimal 9 0)
  where
    clamped : (y : Float) → Raised (clamp_of y (fin true 1 (pos 7)) (fin false 127 (pos 0)))
    clamped y = go (lt y (fin true 1 (pos 7))) (lt (fin false 127 (pos 0)) y) refl refl
      where
        go : (a b : Bool) → lt y (fin true 1 (pos 7)) ≡ a → lt (fin false 127 (pos 0)) y ≡ b → Raised (cond a (fin true 1 (pos 7)) (cond b (fin false 127 (pos 0)) y))
        go true b p q = from_clamped (fin true 1 (pos 7)) (unfold lt in refl) (unfold lt in refl)
        go false true p q = from_clamped (fin false 127 (pos 0)) (unfold lt in refl) (unfold lt in refl)
        go false false p q = from_clamped y p q

-- ---- what the whole part leaves of it, r / d, has no more digits than a float keeps
record Digits (r d : ℕ) : Type 0 where
  q : ℕ
  j : ℕ
  few : q < 2 ^ 24
  is : r * 2 ^ 149 ≡ q * 2 ^ j * d

none : (d : ℕ) → Digits 0 d
none d = record { q = 0; j = 0; few = lit< tt; is = sym (zero-mul d) }

digits : (m : ℕ) (e : ℤ) → T (fits binary32 (fin false m e)) → Digits (m * up e % down e) (down e)
unfolding fits
digits zero e f = rw (zero-mul (up e), zero-mod (down e)) (none (down e))
digits (suc m) (pos k) f = rw (mod-one (suc m * 2 ^ k)) (none 1)
digits (suc m) (negsuc k) f =
    let a = eqb (suc m % 2) 1 in
    let b = ltb (suc m) (2 ^ 24) in
    let c = leb (2 ^ suc k) (2 ^ 149) in
    let d = ltb (suc m * 1) (2 ^ 128 * 2 ^ suc k) in
    let t = and_l (a && b && c) d f in
    let h = reach (leb→le (2 ^ suc k) (2 ^ 149) (and_r (a && b) c t)) in
    let r = suc m * 1 % 2 ^ suc k in
    record {
      q = r;
      j = 149 - suc k;
      few = lt_of_le_of_lt (le_trans (mod-le (suc m * 1) (2 ^ suc k)) (le_of_eq (mul-one (suc m)))) (ltb→lt (suc m) (2 ^ 24) (and_r a b (and_l (a && b) c t)));
      is = ap (λ (x : ℕ). r * x) (ap (λ (x : ℕ). 2 ^ x) (sym (back 149 (suc k) h)) ∙ pow-add 2 (149 - suc k) (suc k)) ∙ sym (mul_assoc r (2 ^ (149 - suc k)) (2 ^ suc k));
    }
  where
    reach : 2 ^ suc k ≤ 2 ^ 149 → suc k ≤ 149
    reach h = le_of_suc-le-suc (lt_of_not-le (λ (g : 150 ≤ suc k). not-le_of_lt (pow-lt g) h))

-- ---- the entries
module _ (m : ℕ) (e : ℤ) (fit : T (fits binary32 (fin false m e))) (most : m * up e ≤ 255 * down e) where
  abbrev left : ℕ
  left = m * up e % down e

  under : m * up e / down e < 256
  under = (div-lt_iff_lt-mul (down_pos e)).1 (omega (arith, most, down_pos e))

  whole_is : whole_part (fin false m e) ≡ m * up e / down e
  whole_is = whole_at 64 (fin false m e) (m * up e) (down e) (down_pos e) (own m e) ∙ min-eq_left (omega (arith, under))

  fraction_is : fin false m e ⊖ whole_float (fin false m e) ≡ round binary32 false left (down e)
  fraction_is = rw whole_is (fraction_at (fin false m e) (m * up e) (down e) (down_pos e) (own m e) (omega (arith, under)))

  few : Digits left (down e)
  few = digits m e fit

  -- both roundings change nothing
  fits_in : few.q * 2 ^ few.j < 2 ^ 149
  fits_in =
      let less : left * 2 ^ 149 < down e * 2 ^ 149 = mul-lt-mul_of_pos_right (mod-lt (m * up e) (down_pos e)) (pow_pos 149) in
      lt_of_mul-lt-mul_right (down e) (lt_of_le_of_lt (le_of_eq (sym few.is)) (lt_of_lt_of_le less (le_of_eq (mul_comm (down e) (2 ^ 149)))))

  kept : HasValue (round binary32 false left (down e)) false left (down e)
  kept = round_exact binary32 false left (down e) few.q few.j (down_pos e) few.few (lt_of_lt_of_le fits_in (lit≤ tt)) few.is

  scaled : few.q * 2 ^ (few.j + 8) ≡ few.q * 2 ^ few.j * 256
  scaled = ap (λ (x : ℕ). few.q * x) (pow-add 2 few.j 8) ∙ sym (mul_assoc few.q (2 ^ few.j) 256)

  kept_256 : HasValue (round binary32 false (left * 256) (down e * 1)) false (left * 256) (down e * 1)
  kept_256 =
      round_exact binary32 false (left * 256) (down e * 1) few.q (few.j + 8) (omega (arith, down_pos e)) few.few
      (subst (λ (x : ℕ). x < 2 ^ 277) (sym scaled) (lt_of_lt_of_le (mul-lt-mul_of_pos_right fits_in (lit< tt)) (lit≤ tt)))
      (times left (2 ^ 149) (few.q * 2 ^ few.j) (down e) few.is ∙ ap (λ (x : ℕ). x * (down e * 1)) (sym scaled))
    where
      times : (r l q d : ℕ) → r * l ≡ q * d → r * 256 * l ≡ q * 256 * (d * 1)
      times r l q d h = omega arith

  low_entry : whole_part ((fin false m e ⊖ whole_float (fin false m e)) ⊗ decimal 256 0) < 256
  unfolding decimal
  low_entry =
      rw (
        fraction_is,
        mul_at (round binary32 false left (down e)) (fin false 1 (pos 8)) left (down e) 256 1 (down_pos e) (lit< tt) kept (refl, refl),
        whole_at 64 (round binary32 false (left * 256) (down e * 1)) (left * 256) (down e * 1) (omega (arith, down_pos e)) kept_256,
      )
      (lt_of_le_of_lt (min-le_left _ _) ((div-lt_iff_lt-mul (omega (arith, down_pos e))).1 (omega (arith, mod-lt (m * up e) (down_pos e)))))

-- A note's frequency reads one entry of each table, and each is among the first 256, which are all that a table has.
pub record InTables (note : Float) : Type 0 where
  pub high : ℕ
  pub low : ℕ
  pub high_in : high < 256
  pub low_in : low < 256
  pub reads : (highs lows : List Float) (a0 : Float) → note_to_frequency highs lows note a0 ≡ a0 ⊗ decimal 25 2 ⊗ (get_or highs high nan ⊗ get_or lows low nan)

both_in : (x : Float) → (x ≡ nan) ⊎ Pitch x → (whole_part x < 256) × (whole_part ((x ⊖ whole_float x) ⊗ decimal 256 0) < 256)
both_in x (inl n) = rw n (unfold sub add mul to_unsigned in (lit< tt, lit< tt))
both_in x (inr p) = rw p.is (rw (whole_is p.m p.e p.fit p.most) (under p.m p.e p.fit p.most), low_entry p.m p.e p.fit p.most)

-- For every float, and so for every note that a score may have.
pub note_in_tables : (note : Float) → InTables note
unfolding note_to_frequency semitones_to_ratio
note_in_tables note =
    let b = both_in (pitch note) (pitch_in note) in
    record {
      high = whole_part (pitch note);
      low = whole_part ((pitch note ⊖ whole_float (pitch note)) ⊗ decimal 256 0);
      high_in = b.0;
      low_in = b.1;
      reads = λ highs lows a0. refl;
    }
