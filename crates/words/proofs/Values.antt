-- Operations by the values of their operands: a float that is a / c in size, not below 0. A sum, a difference and a product are the exact result, rounded.
use Rattle.std.proofs.Common.{◌≡◌, refl, sym, ap, ◌∙◌, Bool, true, false, cond, ℕ, ◌+◌, ◌-◌, ◌*◌, ◌/◌, ◌%◌, ◌≤◌, ◌<◌, mul_comm, mul_left_comm, mul-one, mul-add, mul-pos, lt_of_not-le, not-le_of_lt, div-add-mod', arith, le-ltb, lt-ltb, lit<, ℤ, Float}
use Rattle.std.proofs.Math.Nat.{mul-sub, mul-mul-mul_comm}
use Rattle.std.specs.Float.Ieee.{nan, inf, fin, binary32, up, down, lt, sum, add, sub, mul, round, of_int}
use Rattle.std.specs.Float.Ieee.Fits.{down_pos}
use Rattle.std.specs.Float.Ieee.Exact.{HasValue}
use Rattle.std.specs.Float.Ieee.Scale.{round_same}
use Rattle.std.specs.Float.Ieee.Back.{round_whole}
use Rattle.std.specs.Float.Ieee.Order.{transfer}
use Rattle.words.specs.Binary32.{◌⊕◌, ◌⊖◌, ◌⊗◌, of_count}

-- a float is its own value
pub own : (m : ℕ) (e : ℤ) → HasValue (fin false m e) false (m * up e) (down e)
own m e = (refl, refl)

-- ---- a product
pub mul_at : (x y : Float) (a c b d : ℕ) → 0 < c → 0 < d → HasValue x false a c → HasValue y false b d → x ⊗ y ≡ round binary32 false (a * b) (c * d)
unfolding mul
mul_at nan y a c b d p q v w = absurd v
mul_at (inf s) y a c b d p q v w = absurd v
mul_at (fin s m e) nan a c b d p q v w = absurd w
mul_at (fin s m e) (inf t) a c b d p q v w = absurd w
mul_at (fin s m e) (fin t n k) a c b d p q v w =
    rw (v.0, w.0)
    (round_same binary32 false _ _ _ _ (mul-pos (down_pos e) (down_pos k)) (mul-pos p q)
    (mul-mul-mul_comm (m * up e) (n * up k) c d ∙ ap (λ (z : ℕ). z * (n * up k * d)) v.1 ∙ ap (λ (z : ℕ). a * down e * z) w.1 ∙ mul-mul-mul_comm a (down e) b (down k)))

-- the parts of a sum or a difference over one denominator
scaled : (m u a c d g h : ℕ) → m * u * c ≡ a * g → c * d * (m * u * h) ≡ g * h * (a * d)
scaled m u a c d g h p = simp (mul_comm, mul_left_comm) (simp (mul_comm, mul_left_comm) at (ap (λ (z : ℕ). z * (d * h)) p))

added : (m u a c n w b d g h : ℕ) → m * u * c ≡ a * g → n * w * d ≡ b * h → (m * u * h + n * w * g) * (c * d) ≡ (a * d + b * c) * (g * h)
added m u a c n w b d g h p q =
    let x : c * d * (m * u * h) ≡ g * h * (a * d) = scaled m u a c d g h p in
    let y : c * d * (n * w * g) ≡ g * h * (b * c) = ap (λ (z : ℕ). z * (n * w * g)) (mul_comm c d) ∙ scaled n w b d c h g q ∙ ap (λ (z : ℕ). z * (b * c)) (mul_comm h g) in
    mul_comm (m * u * h + n * w * g) (c * d)
    ∙ mul-add (c * d) (m * u * h) (n * w * g)
    ∙ ap (λ (z : ℕ). z + c * d * (n * w * g)) x
    ∙ ap (λ (z : ℕ). g * h * (a * d) + z) y
    ∙ sym (mul_comm (a * d + b * c) (g * h) ∙ mul-add (g * h) (a * d) (b * c))

-- ---- a sum
pub add_at : (x y : Float) (a c b d : ℕ) → 0 < c → 0 < d → HasValue x false a c → HasValue y false b d → x ⊕ y ≡ round binary32 false (a * d + b * c) (c * d)
unfolding add sum
add_at nan y a c b d p q v w = absurd v
add_at (inf s) y a c b d p q v w = absurd v
add_at (fin s m e) nan a c b d p q v w = absurd w
add_at (fin s m e) (inf t) a c b d p q v w = absurd w
add_at (fin s m e) (fin t n k) a c b d p q v w =
    rw (v.0, w.0)
    (round_same binary32 false _ _ _ _ (mul-pos (down_pos e) (down_pos k)) (mul-pos p q) (added m (up e) a c n (up k) b d (down e) (down k) v.1 w.1))

-- ---- a difference that is not below 0
crossed : (m u a c n w b d g h : ℕ) → m * u * c ≡ a * g → n * w * d ≡ b * h → (m * u * h - n * w * g) * (c * d) ≡ (a * d - b * c) * (g * h)
crossed m u a c n w b d g h p q =
    let x : c * d * (m * u * h) ≡ g * h * (a * d) = scaled m u a c d g h p in
    let y : c * d * (n * w * g) ≡ g * h * (b * c) = ap (λ (z : ℕ). z * (n * w * g)) (mul_comm c d) ∙ scaled n w b d c h g q ∙ ap (λ (z : ℕ). z * (b * c)) (mul_comm h g) in
    mul_comm (m * u * h - n * w * g) (c * d)
    ∙ mul-sub (c * d) (m * u * h) (n * w * g)
    ∙ ap (λ (z : ℕ). z - c * d * (n * w * g)) x
    ∙ ap (λ (z : ℕ). g * h * (a * d) - z) y
    ∙ sym (mul_comm (a * d - b * c) (g * h) ∙ mul-sub (g * h) (a * d) (b * c))

opened : (m : ℕ) (e : ℤ) (n : ℕ) (k : ℤ) → fin false m e ⊖ fin false n k ≡ sum binary32 false (m * up e * down k) true (n * up k * down e) (down e * down k)
unfolding sub
opened m e n k = refl

larger : (A B C : ℕ) → B ≤ A → sum binary32 false A true B C ≡ round binary32 false (A - B) C
unfolding sum
larger A B C h = ap (λ (t : Bool). cond t (round binary32 true (B - A) C) (round binary32 false (A - B) C)) (le-ltb A B h)

pub sub_at : (x y : Float) (a c b d : ℕ) → 0 < c → 0 < d → HasValue x false a c → HasValue y false b d → b * c ≤ a * d → x ⊖ y ≡ round binary32 false (a * d - b * c) (c * d)
sub_at nan y a c b d p q v w h = absurd v
sub_at (inf s) y a c b d p q v w h = absurd v
sub_at (fin s m e) nan a c b d p q v w h = absurd w
sub_at (fin s m e) (inf t) a c b d p q v w h = absurd w
sub_at (fin s m e) (fin t n k) a c b d p q v w h =
    rw (v.0, w.0)
    (opened m e n k
    ∙ larger (m * up e * down k) (n * up k * down e) (down e * down k) (transfer (n * up k) (m * up e) (down k) (down e) b a d c q p w.1 v.1 h)
    ∙ round_same binary32 false _ _ _ _ (mul-pos (down_pos e) (down_pos k)) (mul-pos p q) (crossed m (up e) a c n (up k) b d (down e) (down k) v.1 w.1))

-- ---- what is left of a float when its whole part is taken off
pub count_value : (n : ℕ) → n ≤ 16777216 → HasValue (of_count n) false n 1
unfolding of_int
count_value n h = round_whole binary32 false n h

pub fraction_at : (x : Float) (a c : ℕ) → 0 < c → HasValue x false a c → a / c ≤ 16777216 → x ⊖ of_count (a / c) ≡ round binary32 false (a % c) c
fraction_at x a c p v h =
    let e : a / c * c + a % c ≡ a = div-add-mod' a c in
    sub_at x (of_count (a / c)) a c (a / c) 1 p (lit< tt) v (count_value (a / c) h) (omega arith)
    ∙ ap (λ (k : ℕ). round binary32 false (a * 1 - a / c * c) k) (mul-one c)
    ∙ ap (λ (k : ℕ). round binary32 false k c) (omega arith)

-- ---- a comparison that fails
pub not_below_at : (x y : Float) (a c b d : ℕ) → 0 < c → 0 < d → HasValue x false a c → HasValue y false b d → b * c ≤ a * d → lt x y ≡ false
unfolding lt
not_below_at nan y a c b d p q v w h = absurd v
not_below_at (inf s) y a c b d p q v w h = absurd v
not_below_at (fin s m e) nan a c b d p q v w h = absurd w
not_below_at (fin s m e) (inf t) a c b d p q v w h = absurd w
not_below_at (fin s m e) (fin t n k) a c b d p q v w h =
    rw (v.0, w.0) (le-ltb (m * up e * down k) (n * up k * down e) (transfer (n * up k) (m * up e) (down k) (down e) b a d c q p w.1 v.1 h))

-- ---- a comparison that holds
pub below_at : (x y : Float) (a c b d : ℕ) → 0 < c → 0 < d → HasValue x false a c → HasValue y false b d → a * d < b * c → lt x y ≡ true
unfolding lt
below_at nan y a c b d p q v w h = absurd v
below_at (inf s) y a c b d p q v w h = absurd v
below_at (fin s m e) nan a c b d p q v w h = absurd w
below_at (fin s m e) (inf t) a c b d p q v w h = absurd w
below_at (fin s m e) (fin t n k) a c b d p q v w h =
    rw (v.0, w.0)
    (lt-ltb (m * up e * down k) (n * up k * down e)
    (lt_of_not-le (λ g. not-le_of_lt h (transfer b a d c (n * up k) (m * up e) (down k) (down e) (down_pos k) (down_pos e) (sym w.1) (sym v.1) g))))
