-- Moving a chunk of numbers at a time: what is moved so far, and what is left.
use Rattle.std.proofs.Common.{◌≡◌, refl, sym, ap, ◌∙◌, List, [], ◌++◌, append_assoc, ℕ, ◌+◌, ◌-◌, ◌*◌, ◌≤◌, ◌<◌, le_refl, suc-mul, add-mul, add-one, arith, length, take, drop, length-append, length-drop, take-append-drop, length-take-le, take-add, take_at, drop_at, drop-drop, take-take}
use Rattle.std.proofs.Math.Seq.{take-append-le}
use Rattle.lists.specs.Lists.{put, shift_up, shift_down}
use Rattle.lists.proofs.Places.{put_before, put_behind, put_same_length, part_in_front}

-- ---- Numbers put in one after the other.

module _ (l x y : List ℕ) (m : ℕ) (h : m + length x + length y ≤ length l) where
  room : m + length x ≤ length l
  room = omega arith

  -- What stands behind both.
  rest : drop (length y) (drop (m + length x) l) ≡ drop (length (x ++ y)) (drop m l)
  rest =
      let q : length x + length y ≡ length (x ++ y) = sym (length-append x y) in
      ap (λ (z : List ℕ). drop (length y) z) (sym (drop-drop (length x) m l)) ∙ drop-drop (length y) (length x) (drop m l) ∙ ap (λ (i : ℕ). drop i (drop m l)) q

  both : take m l ++ (x ++ (y ++ drop (length y) (drop (m + length x) l))) ≡ put l m (x ++ y)
  both = ap (λ (z : List ℕ). take m l ++ z) (sym (append_assoc x y _)) ∙ ap (λ (z : List ℕ). take m l ++ ((x ++ y) ++ z)) rest

  -- The later ones first.
  pub put_in_front : put (put l (m + length x) y) m x ≡ put l m (x ++ y)
  put_in_front =
      let fits : m + length x + length y ≤ length l = h in
      let e : length (take (m + length x) l) ≡ m + length x = length-take-le (m + length x) l room in
      let f : take m (put l (m + length x) y) ≡ take m l =
      take-append-le m (take (m + length x) l) _ (omega arith) ∙ take-take m (m + length x) l (omega arith) in
      let b : drop (length x) (drop m (put l (m + length x) y)) ≡ y ++ drop (length y) (drop (m + length x) l) =
      drop-drop (length x) m (put l (m + length x) y) ∙ drop_at (take (m + length x) l) _ (m + length x) e in
      rw (f, b) both

  -- The earlier ones first.
  pub put_behind_it : put (put l m x) (m + length x) y ≡ put l m (x ++ y)
  put_behind_it =
      let e : length (take m l ++ x) ≡ m + length x = length-append (take m l) x ∙ ap (λ (i : ℕ). i + length x) (length-take-le m l (omega arith)) in
      let s : put l m x ≡ (take m l ++ x) ++ drop (length x) (drop m l) = sym (append_assoc (take m l) x _) in
      let f : take (m + length x) (put l m x) ≡ take m l ++ x = ap (λ (z : List ℕ). take (m + length x) z) s ∙ take_at (take m l ++ x) _ (m + length x) e in
      let b : drop (m + length x) (put l m x) ≡ drop (m + length x) l = put_behind l x m room in
      rw (f, b) (append_assoc (take m l) x _ ∙ both)

-- ---- A chunk.

-- Numbers that were copied into a buffer, and from it to another place.
pub chunk_moved : (l buffer : List ℕ) (from to n : ℕ) (x z : List ℕ) → from + n ≤ length l → to + n ≤ length l
    → x ≡ take (from + n - from) (drop from l) → z ≡ take n (x ++ drop n buffer)
    → take to l ++ (z ++ drop (to + n - to) (drop to l)) ≡ put l to (take n (drop from l))
chunk_moved l buffer from to n x z h k e f =
    let a : from + n - from ≡ n = omega arith in
    let b : to + n - to ≡ n = omega arith in
    let c : length (take n (drop from l)) ≡ n = length-take-le n (drop from l) (rw length-drop (omega arith)) in
    let y : x ≡ take n (drop from l) = rw a at e in
    let w : z ≡ take n (drop from l) = f ∙ take_at x _ n (ap length y ∙ c) ∙ y in
    rw (w, b, c)

-- ---- Up and down.

-- The numbers from `at` to before `end` are moved up.
pub record MovedUp (l₀ l : List ℕ) (from end by at : ℕ) : Type 0 where
  pub since : from ≤ at
  pub most : at ≤ end
  pub long : length l ≡ length l₀
  pub is : l ≡ put l₀ (at + by) (take (end - at) (drop at l₀))

-- The numbers from `from` to before `at` are moved down.
pub record MovedDown (l₀ l : List ℕ) (from end by at : ℕ) : Type 0 where
  pub since : from ≤ at
  pub most : at ≤ end
  pub long : length l ≡ length l₀
  pub is : l ≡ put l₀ (from - by) (take (at - from) (drop from l₀))

-- Nothing put in.
put_none : (l : List ℕ) (a : ℕ) → put l a [] ≡ l
put_none l a = take-append-drop a l

pub up_none : (l : List ℕ) (from end by : ℕ) → from ≤ end → MovedUp l l from end by end
up_none l from end by h =
    let z : end - end ≡ 0 = omega arith in
    record { since = h; most = le_refl end; long = refl; is = rw z (sym (put_none l (end + by))) }

pub down_none : (l : List ℕ) (from end by : ℕ) → from ≤ end → MovedDown l l from end by from
down_none l from end by h =
    let z : from - from ≡ 0 = omega arith in
    record { since = le_refl from; most = h; long = refl; is = rw z (sym (put_none l (from - by))) }

pub up_more : (l₀ l : List ℕ) (from end by at n : ℕ) → end + by ≤ length l₀ → from + n ≤ at → MovedUp l₀ l from end by at
    → MovedUp l₀ (put l (at - n + by) (take n (drop (at - n) l))) from end by (at - n)
up_more l₀ l from end by at n h k m =
    let b : ℕ = at - n in
    let x : List ℕ = take n (drop b l₀) in
    let y : List ℕ = take (end - at) (drop at l₀) in
    let lx : length x ≡ n = length-take-le n (drop b l₀) (rw length-drop (omega (arith, m.most))) in
    let ly : length y ≡ end - at = length-take-le (end - at) (drop at l₀) (rw length-drop (omega (arith, m.most))) in
    let p : at + by ≡ b + by + length x = omega (arith, lx) in
    let fits : b + by + length x + length y ≤ length l₀ = omega (arith, lx, ly, m.most) in
    let there : take n (drop b l) ≡ x =
    ap (λ (z : List ℕ). take n (drop b z)) m.is
    ∙ part_in_front n (at + by) b (put l₀ (at + by) y) (omega arith)
    ∙ ap (λ (z : List ℕ). take n (drop b z)) (put_before l₀ y (at + by) (omega (arith, ly, m.most)))
    ∙ sym (part_in_front n (at + by) b l₀ (omega arith)) in
    let q : b + n ≡ at = omega arith in
    let e : end - b ≡ n + (end - at) = omega (arith, m.most) in
    let joined : x ++ y ≡ take (end - b) (drop b l₀) =
    ap (λ (z : List ℕ). x ++ take (end - at) z) (ap (λ (i : ℕ). drop i l₀) (sym q) ∙ sym (drop-drop n b l₀))
    ∙ sym (take-add n (end - at) (drop b l₀)) ∙ ap (λ (i : ℕ). take i (drop b l₀)) (sym e) in
    record {
      since = omega arith;
      most = omega (arith, m.most);
      long = put_same_length l (take n (drop b l)) (b + by) (rw there (omega (arith, m.long, m.most, lx))) ∙ m.long;
      is =
          ap (λ (z : List ℕ). put l (b + by) z) there
          ∙ ap (λ (z : List ℕ). put z (b + by) x) m.is
          ∙ ap (λ (i : ℕ). put (put l₀ i y) (b + by) x) p
          ∙ put_in_front l₀ x y (b + by) fits
          ∙ ap (λ (z : List ℕ). put l₀ (b + by) z) joined;
    }

pub down_more : (l₀ l : List ℕ) (from end by at n : ℕ) → by ≤ from → end ≤ length l₀ → at + n ≤ end → MovedDown l₀ l from end by at
    → MovedDown l₀ (put l (at - by) (take n (drop at l))) from end by (at + n)
down_more l₀ l from end by at n h f k m =
    let x : List ℕ = take (at - from) (drop from l₀) in
    let y : List ℕ = take n (drop at l₀) in
    let lx : length x ≡ at - from = length-take-le (at - from) (drop from l₀) (rw length-drop (omega (arith, m.since))) in
    let ly : length y ≡ n = length-take-le n (drop at l₀) (rw length-drop (omega arith)) in
    let a : ℕ = from - by in
    let p : at - by ≡ a + length x = omega (arith, lx, m.since) in
    let fits : a + length x + length y ≤ length l₀ = omega (arith, lx, ly, m.since) in
    let r : at ≡ a + length x + by = omega (arith, lx, m.since) in
    let there : take n (drop at l) ≡ y =
    ap (λ (z : List ℕ). take n (drop at z)) m.is
    ∙ ap (λ (i : ℕ). take n (drop i (put l₀ a x))) r
    ∙ ap (λ (z : List ℕ). take n z) (sym (further (put l₀ a x)) ∙ ap (λ (z : List ℕ). drop by z) (put_behind l₀ x a (omega arith)) ∙ further l₀)
    ∙ ap (λ (i : ℕ). take n (drop i l₀)) (sym r) in
    let e : at + n - from ≡ at - from + n = omega (arith, m.since) in
    let q : from + (at - from) ≡ at = omega (arith, m.since) in
    let joined : x ++ y ≡ take (at + n - from) (drop from l₀) =
    ap (λ (z : List ℕ). x ++ take n z) (ap (λ (i : ℕ). drop i l₀) (sym q) ∙ sym (drop-drop (at - from) from l₀))
    ∙ sym (take-add (at - from) n (drop from l₀)) ∙ ap (λ (i : ℕ). take i (drop from l₀)) (sym e) in
    record {
      since = omega (arith, m.since);
      most = omega arith;
      long = put_same_length l (take n (drop at l)) (at - by) (rw there (omega (arith, m.long, ly))) ∙ m.long;
      is =
          ap (λ (z : List ℕ). put l (at - by) z) there
          ∙ ap (λ (z : List ℕ). put z (at - by) y) m.is
          ∙ ap (λ (i : ℕ). put (put l₀ a x) i y) p
          ∙ put_behind_it l₀ x y a fits
          ∙ ap (λ (z : List ℕ). put l₀ a z) joined;
    }
  where
    further : (z : List ℕ) → drop by (drop (from - by + length (take (at - from) (drop from l₀))) z) ≡ drop (from - by + length (take (at - from) (drop from l₀)) + by) z
    further z = drop-drop by (from - by + length (take (at - from) (drop from l₀))) z

pub up_all : (l₀ l : List ℕ) (from end by at : ℕ) → at ≤ from → MovedUp l₀ l from end by at → l ≡ put l₀ (from + by) (take (end - from) (drop from l₀))
up_all l₀ l from end by at h m =
    let q : at ≡ from = omega (arith, m.since) in
    m.is ∙ ap (λ (i : ℕ). put l₀ (i + by) (take (end - i) (drop i l₀))) q

pub down_all : (l₀ l : List ℕ) (from end by at : ℕ) → end ≤ at → MovedDown l₀ l from end by at → l ≡ put l₀ (from - by) (take (end - from) (drop from l₀))
down_all l₀ l from end by at h m =
    let q : at ≡ end = omega (arith, m.most) in
    m.is ∙ ap (λ (i : ℕ). put l₀ (from - by) (take (i - from) (drop from l₀))) q

-- ---- Parts of one width.

-- As many parts from part p on as there are words of them.
parts_between : (w p n : ℕ) → p ≤ n → n * w - p * w ≡ (n - p) * w
parts_between w p n h =
    let q : p + (n - p) ≡ n = omega arith in
    let e : p * w + (n - p) * w ≡ n * w = sym (add-mul p (n - p) w) ∙ ap (λ (i : ℕ). i * w) q in
    omega arith

module _ (w p n : ℕ) (l l' : List ℕ) where
  pub shifted_up : p ≤ n → l' ≡ put l (p * w + w) (take (n * w - p * w) (drop (p * w) l)) → l' ≡ shift_up w l p n
  shifted_up h e =
      let a : p * w + w ≡ (p + 1) * w = rw (add-one, suc-mul) in
      e ∙ rw (a, parts_between w p n h)

  pub shifted_down : p < n → l' ≡ put l ((p + 1) * w - w) (take (n * w - (p + 1) * w) (drop ((p + 1) * w) l)) → l' ≡ shift_down w l p n
  shifted_down h e =
      let s : (p + 1) * w ≡ p * w + w = rw (add-one, suc-mul) in
      let a : (p + 1) * w - w ≡ p * w = omega arith in
      e ∙ rw (a, parts_between w (p + 1) n (omega arith))
