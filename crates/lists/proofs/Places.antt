-- Lists cut into parts of one length, and perhaps longer: a part that is put in stands there, and what is outside it is as it was.
use Rattle.std.proofs.Common.{◌≡◌, refl, sym, ap, ◌∙◌, List, [], ◌∷◌, ◌++◌, ◌⊎◌, inl, inr, ℕ, zero, suc, ◌+◌, ◌-◌, ◌*◌, ◌≤◌, ◌<◌, suc-mul, mul-le-mul_right, add-one, arith, length, take, drop, length-append, length-drop, take-append-drop, length-take-le, take-take, take_at, drop_at, drop-drop}
use Rattle.std.proofs.Math.Seq.{take-nil}
use Rattle.lists.specs.Lists.{part, put}

-- ---- Numbers put in at a place.

module _ (l x : List ℕ) (a : ℕ) (h : a + length x ≤ length l) where
  front_long : length (take a l) ≡ a
  front_long = length-take-le a l (omega arith)

  pub put_before : take a (put l a x) ≡ take a l
  put_before = take_at (take a l) (x ++ drop (length x) (drop a l)) a front_long

  pub put_here : take (length x) (drop a (put l a x)) ≡ x
  put_here = rw (drop_at (take a l) (x ++ drop (length x) (drop a l)) a front_long) (take_at x (drop (length x) (drop a l)) (length x) refl)

  pub put_behind : drop (a + length x) (put l a x) ≡ drop (a + length x) l
  put_behind =
      sym (drop-drop (length x) a (put l a x))
      ∙ rw (drop_at (take a l) (x ++ drop (length x) (drop a l)) a front_long) (drop_at x (drop (length x) (drop a l)) (length x) refl ∙ drop-drop (length x) a l)

  pub put_same_length : length (put l a x) ≡ length l
  put_same_length = rw (length-append, length-append, front_long, length-drop, length-drop) (omega arith)

-- The numbers that stand there put in change nothing.
pub put_same : (l x : List ℕ) (a n : ℕ) → length x ≡ n → take n (drop a l) ≡ x → put l a x ≡ l
put_same l x a n e w = rw (e, sym w, take-append-drop n (drop a l)) (take-append-drop a l)

pub drop_of_take : (n k : ℕ) (l : List ℕ) → drop n (take (n + k) l) ≡ take k (drop n l)
drop_of_take zero k l = let q : 0 + k ≡ k = omega arith in ap (λ (i : ℕ). take i l) q
drop_of_take (suc n) k [] = let q : suc n + k ≡ suc (n + k) = omega arith in rw q (sym (take-nil k))
drop_of_take (suc n) k (x ∷ l) = let q : suc n + k ≡ suc (n + k) = omega arith in rw q (drop_of_take n k l)

-- ---- Part k.

-- Outside parts a to b - 1, of w each, the new list is as the old one was.
pub record Outside (w a b : ℕ) (old new : List ℕ) : Type 0 where
  pub before : take (a * w) new ≡ take (a * w) old
  pub behind : drop (b * w) new ≡ drop (b * w) old

pub part_end : (k n w : ℕ) → k < n → k * w + w ≤ n * w
part_end k n w h = rw (suc-mul k w) at (mul-le-mul_right w h)

module _ (w k : ℕ) (l x : List ℕ) (h : k * w + w ≤ length l) (f : length x ≡ w) where
  fits : k * w + length x ≤ length l
  fits = omega arith

  pub put_part : part w (put l (k * w) x) k ≡ x
  put_part = ap (λ (m : ℕ). take m (drop (k * w) (put l (k * w) x))) (sym f) ∙ put_here l x (k * w) fits

  pub put_outside : Outside w k (k + 1) l (put l (k * w) x)
  put_outside =
      let b : (k + 1) * w ≡ k * w + length x = rw (add-one, suc-mul, f) in
      record { before = put_before l x (k * w) fits; behind = rw b (put_behind l x (k * w) fits) }

  pub put_long : length (put l (k * w) x) ≡ length l
  put_long = put_same_length l x (k * w) fits

-- ---- Parts outside some others.

pub part_in_front : (w a b : ℕ) (l : List ℕ) → b + w ≤ a → take w (drop b l) ≡ take w (drop b (take a l))
part_in_front w a zero l h = sym (take-take w a l (omega arith))
part_in_front w zero (suc b) l h = absurd (omega arith)
part_in_front w (suc a) (suc b) [] h = refl
part_in_front w (suc a) (suc b) (x ∷ l) h = part_in_front w a b l (omega arith)

-- What stands behind one place is what stands behind an earlier one, less some.
drop_past : (l : List ℕ) (a b : ℕ) → a ≤ b → drop b l ≡ drop (b - a) (drop a l)
drop_past l a b h =
    let d : b ≡ a + (b - a) = omega arith in
    ap (λ (m : ℕ). drop m l) d ∙ sym (drop-drop (b - a) a l)

pub part_outside : (w k j : ℕ) (old new : List ℕ) → Outside w k j old new → (i : ℕ) → (i < k) ⊎ (j ≤ i) → part w new i ≡ part w old i
part_outside w k j old new o i (inl h) =
    let g : i * w + w ≤ k * w = part_end i k w h in
    part_in_front w (k * w) (i * w) new g ∙ ap (λ (y : List ℕ). take w (drop (i * w) y)) o.before ∙ sym (part_in_front w (k * w) (i * w) old g)
part_outside w k j old new o i (inr h) =
    let g : j * w ≤ i * w = mul-le-mul_right w h in
    ap (λ (y : List ℕ). take w y)
    (drop_past new (j * w) (i * w) g ∙ ap (λ (y : List ℕ). drop (i * w - j * w) y) o.behind ∙ sym (drop_past old (j * w) (i * w) g))

-- What is as it was outside a part, and then outside the parts after it, is as it was outside them all.
pub outside_then : (w k j : ℕ) (a b c : List ℕ) → k < j → Outside w k (k + 1) a b → Outside w (k + 1) j b c → Outside w k j a c
outside_then w k j a b c h p q =
    let g : k * w ≤ (k + 1) * w = mul-le-mul_right w (omega arith) in
    let u : (k + 1) * w ≤ j * w = mul-le-mul_right w (omega arith) in
    let front = take-take (k * w) ((k + 1) * w) in
    let further = ap (λ (y : List ℕ). drop (j * w - (k + 1) * w) y) p.behind in
    record {
      before = sym (front c g) ∙ ap (λ (y : List ℕ). take (k * w) y) q.before ∙ front b g ∙ p.before;
      behind = q.behind ∙ drop_past b ((k + 1) * w) (j * w) u ∙ further ∙ sym (drop_past a ((k + 1) * w) (j * w) u);
    }
