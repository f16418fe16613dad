-- Floats from +0 up stand in the order of their words: both go by the exponent's field first and then by the digits below it.
use Rattle.std.proofs.Common.{◌≡◌, refl, sym, ap, ◌∙◌, subst, ⊎_elim, Bool, true, false, ◌&&◌, ◌||◌, cond, true≢false, ℕ, zero, suc, ◌+◌, ◌*◌, ◌/◌, ◌%◌, ◌^◌, ◌≤◌, ◌<◌, mul-lt-mul_of_pos_right, mul-le-mul_left, mul-le-mul_right, le_of_mul-le-mul_right, pow-suc, mod-eq_of_lt, zero-mul, mul-pos, eq-or-lt_of_le, lt_irrefl, lt_of_lt_of_le, le_trans, le_of_eq, le_of_lt, arith, le-leb, ne_eqb, eq-eqb, lt-ltb, le-ltb, pos, leb, ltb, eqb, pow_pos, pow_mono}
use Rattle.std.proofs.lemmas.Bool.{false≢true, lt-leb}
use Rattle.std.specs.Float.Ieee.{Float, nan, inf, fin, binary32, up, down, le, lt, eq, of_bits, of_fields}
use Rattle.std.specs.Float.Ieee.Exact.{HasValue, odd_sign}
use Rattle.std.specs.Float.Ieee.Fits.{down_pos}
use Rattle.std.specs.Float.Ieee.Order.{transfer}
use Rattle.lists.proofs.Cases.{le_or_lt}

-- two tests are the same where each way of the one is that way of the other
same_leb : (a b c d : ℕ) → (a ≤ b → c ≤ d) → (b < a → d < c) → leb a b ≡ leb c d
same_leb a b c d f g = ⊎_elim (λ h. le-leb a b h ∙ sym (le-leb c d (f h))) (λ h. lt-leb a b h ∙ sym (lt-leb c d (g h))) (le_or_lt a b)

-- ---- two fractions with one denominator, as floats: their order is that of the numerators
le_is_leb : (a b : ℕ) → ltb a b || (eqb a b && true) ≡ leb a b
le_is_leb a b = ⊎_elim up_to (λ h. rw (le-ltb a b (omega arith), ne_eqb a b (λ e. omega arith), lt-leb a b h)) (le_or_lt a b)
  where
    up_to : a ≤ b → ltb a b || (eqb a b && true) ≡ leb a b
    up_to h = ⊎_elim (λ e. rw (le-ltb a b (omega arith), eq-eqb a b e, le-leb a b h)) (λ l. rw (lt-ltb a b l, le-leb a b h)) (eq-or-lt_of_le h)

le_of_values : (x y : Float) (a b c : ℕ) → 0 < c → HasValue x false a c → HasValue y false b c → le x y ≡ leb a b
unfolding le lt eq
le_of_values nan y a b c C p q = absurd p
le_of_values (inf s) y a b c C p q = absurd p
le_of_values (fin true m e) y a b c C p q = absurd (true≢false p.0)
le_of_values (fin false m e) nan a b c C p q = absurd q
le_of_values (fin false m e) (inf t) a b c C p q = absurd q
le_of_values (fin false m e) (fin true n d) a b c C p q = absurd (true≢false q.0)
le_of_values (fin false m e) (fin false n d) a b c C p q =
    le_is_leb (m * up e * down d) (n * up d * down e)
    ∙ same_leb (m * up e * down d) (n * up d * down e) a b
    (λ h. le_of_mul-le-mul_right (transfer a b c c (m * up e) (n * up d) (down e) (down d) (down_pos e) (down_pos d) (sym p.1) (sym q.1) h) C)
    (λ h. ⊎_elim
    (λ l. absurd (lt_irrefl _ (lt_of_lt_of_le h (transfer (m * up e) (n * up d) (down e) (down d) a b c c C C p.1 q.1 (mul-le-mul_right c l)))))
    (λ l. l)
    (le_or_lt a b))

-- ---- a word's fields, and the size of its float
-- the size of the float with an exponent's field x and digits t, in units of the smallest one
abbrev pub size : ℕ → ℕ → ℕ
size zero t = t * 2 ^ 0
size (suc x) t = (2 ^ 23 + t) * 2 ^ x

has_size : (s : Bool) (x t : ℕ) → x < 255 → HasValue (of_fields binary32 s x t) s (size x t) (2 ^ 149)
unfolding of_fields
has_size s zero t h = odd_sign 24 s t 0 149
has_size s (suc x) t h = rw (ne_eqb (suc x) 255 (λ e. omega arith)) (odd_sign 24 s (2 ^ 23 + t) x 149)

size_under : (x t : ℕ) → t < 2 ^ 23 → size x t < 2 ^ 23 * 2 ^ x
size_under zero t h = omega arith
size_under (suc x) t h = rw (pow-suc 2 x) (omega (arith, mul-lt-mul_of_pos_right {m = 2 ^ 23 + t} {n = 2 ^ 24} {k = 2 ^ x} (omega arith) (pow_pos x)))

size_over : (x t : ℕ) → 2 ^ 23 * 2 ^ x ≤ size (suc x) t
size_over x t = mul-le-mul_right (2 ^ x) (omega arith)

size_pos : (x t : ℕ) → 0 < x * 2 ^ 23 + t → 0 < size x t
size_pos zero t h = omega arith
size_pos (suc x) t h = omega (arith, size_over x t, pow_pos x)

size_mono : (x t u : ℕ) → t < u → size x t < size x u
size_mono zero t u h = omega arith
size_mono (suc x) t u h = mul-lt-mul_of_pos_right (omega arith) (pow_pos x)

higher : (x t y u : ℕ) → t < 2 ^ 23 → x < y → size x t < size y u
higher x t (suc y) u T h =
    lt_of_lt_of_le (size_under x t T) (le_trans (mul-le-mul_left (2 ^ 23) (pow_mono (omega arith))) (size_over y u))
higher x t zero u T h = absurd (omega arith)

size_lt : (x t y u : ℕ) → t < 2 ^ 23 → u < 2 ^ 23 → x * 2 ^ 23 + t < y * 2 ^ 23 + u → size x t < size y u
size_lt x t y u T U h = ⊎_elim (λ e. subst (λ (z : ℕ). size x t < size z u) e (size_mono x t u (omega arith))) (higher x t y u T) (eq-or-lt_of_le (omega arith))

below_sign : (w : ℕ) → w < 2 ^ 31 → of_bits binary32 w ≡ of_fields binary32 false (w / 2 ^ 23) (w % 2 ^ 23)
unfolding of_bits
below_sign w h = rw (lt-leb (2 ^ 31) w h, mod-eq_of_lt h)

abbrev pub word_size : ℕ → ℕ
word_size w = size (w / 2 ^ 23) (w % 2 ^ 23)

-- a word below an infinity's is a finite float's, from +0 up
pub finite_word : (w : ℕ) → w < 0x7f800000 → HasValue (of_bits binary32 w) false (word_size w) (2 ^ 149)
finite_word w h = rw (below_sign w (omega arith)) (has_size false (w / 2 ^ 23) (w % 2 ^ 23) (omega arith))

-- the words of those floats have the floats' order
pub words_order : (w h : ℕ) → w < 0x7f800000 → h < 0x7f800000 → le (of_bits binary32 w) (of_bits binary32 h) ≡ leb w h
words_order w h W H =
    le_of_values (of_bits binary32 w) (of_bits binary32 h) (word_size w) (word_size h) (2 ^ 149) (pow_pos 149) (finite_word w W) (finite_word h H)
    ∙ sym (same_leb w h (word_size w) (word_size h) up_to (λ l. lower h w l))
  where
    lower : (v u : ℕ) → v < u → word_size v < word_size u
    lower v u l = size_lt (v / 2 ^ 23) (v % 2 ^ 23) (u / 2 ^ 23) (u % 2 ^ 23) (omega arith) (omega arith) (omega arith)

    up_to : w ≤ h → word_size w ≤ word_size h
    up_to l = ⊎_elim (λ e. le_of_eq (ap word_size e)) (λ q. le_of_lt (lower w h q)) (eq-or-lt_of_le l)

-- ---- the other words
-- no float from +0 up is as large as an infinity or a NaN
pub past_finite : (w : ℕ) (y : Float) (b c : ℕ) → 0x7f800000 ≤ w → w < 2 ^ 31 → HasValue y false b c → le (of_bits binary32 w) y ≡ false
unfolding of_fields le lt eq
past_finite w nan b c l u q = absurd q
past_finite w (inf t) b c l u q = absurd q
past_finite w (fin t n d) b c l u q =
    let e : w / 2 ^ 23 ≡ 255 = omega arith in
    rw (below_sign w u, e) (go (eqb (w % 2 ^ 23) 0))
  where
    go : (z : Bool) → le (cond z (inf false) nan) (fin t n d) ≡ false
    go true = refl
    go false = refl

-- -0 is up to each of them
pub minus_zero : (y : Float) (b c : ℕ) → HasValue y false b c → le (fin true 0 (pos 0)) y ≡ true
unfolding le lt eq
minus_zero nan b c q = absurd q
minus_zero (inf t) b c q = absurd q
minus_zero (fin true n d) b c q = absurd (true≢false q.0)
minus_zero (fin false n d) b c q = rw zero-mul (go (n * up d * 1))
  where
    go : (m : ℕ) → ltb 0 (0 + m) || (eqb 0 m && true) ≡ true
    go zero = refl
    go (suc m) = rw (lt-ltb 0 (0 + suc m) (omega arith))

-- a float below 0 is not from 0 up
negative : (x : Float) (a c : ℕ) → 0 < a → HasValue x true a c → le (fin false 0 (pos 0)) x ≡ false
unfolding le lt eq
negative nan a c A p = absurd p
negative (inf t) a c A p = absurd p
negative (fin false m e) a c A p = absurd (false≢true p.0)
negative (fin true m e) a c A p =
    rw (zero-mul, ne_eqb 0 (m * up e * 1) (λ z. lt_irrefl 0 (subst (λ (k : ℕ). 0 < k) (sym p.1 ∙ ap (λ (k : ℕ). k * c) (none z) ∙ zero-mul c) (mul-pos A (down_pos e)))))
  where
    none : 0 ≡ m * up e * 1 → m * up e ≡ 0
    none z = omega arith

all_ones : (t : ℕ) → le (fin false 0 (pos 0)) (of_fields binary32 true 255 t) ≡ false
unfolding of_fields le lt eq
all_ones t = go (eqb t 0)
  where
    go : (z : Bool) → le (fin false 0 (pos 0)) (cond z (inf true) nan) ≡ false
    go true = refl
    go false = refl

-- no other word with the sign's bit set is a float from 0 up
pub below_zero : (w : ℕ) → 2 ^ 31 < w → w < 2 ^ 32 → le (fin false 0 (pos 0)) (of_bits binary32 w) ≡ false
unfolding of_bits
below_zero w l u = rw (le-leb (2 ^ 31) w (omega arith)) (go (w % 2 ^ 31 / 2 ^ 23) (w % 2 ^ 23) (omega arith) (omega arith))
  where
    go : (x t : ℕ) → x ≤ 255 → 0 < x * 2 ^ 23 + t → le (fin false 0 (pos 0)) (of_fields binary32 true x t) ≡ false
    go x t X h =
        ⊎_elim (λ (e : x ≡ 255). rw e (all_ones t)) (λ q. negative (of_fields binary32 true x t) (size x t) (2 ^ 149) (size_pos x t h) (has_size true x t q))
        (eq-or-lt_of_le X)
