-- Parts of one length moved by one place, in lists that may be longer: where each part stands, what stays, and what the first parts are then.
use Rattle.std.proofs.Common.{◌≡◌, sym, ap, ◌∙◌, subst, List, ◌++◌, append_assoc, inl, inr, ℕ, ◌+◌, ◌-◌, ◌*◌, ◌≤◌, ◌<◌, suc-mul, add-mul, add-one, arith, length, take, drop, length-append, length-drop, take-append-drop, length-take-le, take-take, take-add, drop-drop, take_at, drop_at}
use Rattle.std.proofs.Math.Seq.{take-append-le, drop-append-le}
use Rattle.lists.specs.Lists.{part, put, shift_up, shift_down}
use Rattle.lists.proofs.Places.{Outside, put_before, put_here, put_behind, put_same_length, part_end, part_in_front, part_outside, put_part, put_outside, put_long}

-- ---- Some parts that are put in together.

drop_parts : (w a j : ℕ) (l : List ℕ) → drop (j * w) (drop (a * w) l) ≡ drop ((a + j) * w) l
drop_parts w a j l = drop-drop (j * w) (a * w) l ∙ ap (λ (m : ℕ). drop m l) (sym (add-mul a j w))

module _ (w a c : ℕ) (l x : List ℕ) (e : length x ≡ c * w) (h : (a + c) * w ≤ length l) where
  together : a * w + length x ≤ length l
  together = omega (arith, add-mul a c w)

  pub many_outside : Outside w a (a + c) l (put l (a * w) x)
  many_outside =
      let b : (a + c) * w ≡ a * w + length x = omega (arith, add-mul a c w) in
      record { before = put_before l x (a * w) together; behind = rw b (put_behind l x (a * w) together) }

  pub many_part : (j : ℕ) → j < c → part w (put l (a * w) x) (a + j) ≡ part w x j
  many_part j k =
      let g : j * w + w ≤ length x = omega (arith, part_end j c w k) in
      ap (λ (y : List ℕ). take w y) (sym (drop_parts w a j (put l (a * w) x)))
      ∙ part_in_front w (length x) (j * w) (drop (a * w) (put l (a * w) x)) g
      ∙ ap (λ (y : List ℕ). take w (drop (j * w) y)) (put_here l x (a * w) together)

  pub many_long : length (put l (a * w) x) ≡ length l
  many_long = put_same_length l x (a * w) together

-- Parts b to b + c - 1, taken out.
module _ (w b c : ℕ) (l : List ℕ) (h : (b + c) * w ≤ length l) where
  abbrev out : List ℕ
  out = take (c * w) (drop (b * w) l)

  pub out_long : length out ≡ c * w
  out_long = length-take-le (c * w) (drop (b * w) l) (rw length-drop (omega (arith, add-mul b c w)))

  pub out_part : (j : ℕ) → j < c → part w out j ≡ part w l (b + j)
  out_part j k = sym (part_in_front w (c * w) (j * w) (drop (b * w) l) (part_end j c w k)) ∙ ap (λ (y : List ℕ). take w y) (drop_parts w b j l)

-- ---- Up by one place.

module _ (w : ℕ) (l : List ℕ) (p n : ℕ) (h : p ≤ n) (r : (n + 1) * w ≤ length l) where
  up_room : (p + (n - p)) * w ≤ length l
  up_room =
      let q : p + (n - p) ≡ n = omega arith in
      rw q (omega (arith, part_end n (n + 1) w (omega arith)))

  up_room' : (p + 1 + (n - p)) * w ≤ length l
  up_room' = let q : p + 1 + (n - p) ≡ n + 1 = omega arith in rw q r

  pub up_long : length (shift_up w l p n) ≡ length l
  up_long = many_long w (p + 1) (n - p) l (out w p (n - p) l up_room) (out_long w p (n - p) l up_room) up_room'

  pub up_below : (i : ℕ) → i < p + 1 → part w (shift_up w l p n) i ≡ part w l i
  up_below i k = part_outside w (p + 1) (p + 1 + (n - p)) l _ (many_outside w (p + 1) (n - p) l (out w p (n - p) l up_room) (out_long w p (n - p) l up_room) up_room') i (inl k)

  pub up_outside : Outside w (p + 1) (n + 1) l (shift_up w l p n)
  up_outside =
      let q : p + 1 + (n - p) ≡ n + 1 = omega arith in
      subst (λ (j : ℕ). Outside w (p + 1) j l (shift_up w l p n)) q (many_outside w (p + 1) (n - p) l (out w p (n - p) l up_room) (out_long w p (n - p) l up_room) up_room')

  pub up_above : (i : ℕ) → p + 1 ≤ i → i < n + 1 → part w (shift_up w l p n) i ≡ part w l (i - 1)
  up_above i k m =
      let q : i ≡ p + 1 + (i - (p + 1)) = omega arith in
      let q' : p + (i - (p + 1)) ≡ i - 1 = omega arith in
      ap (λ (j : ℕ). part w (shift_up w l p n) j) q
      ∙ many_part w (p + 1) (n - p) l (out w p (n - p) l up_room) (out_long w p (n - p) l up_room) up_room' (i - (p + 1)) (omega arith)
      ∙ out_part w p (n - p) l up_room (i - (p + 1)) (omega arith)
      ∙ ap (λ (j : ℕ). part w l j) q'

-- ---- Down by one place.

module _ (w : ℕ) (l : List ℕ) (p n : ℕ) (h : p < n) (r : n * w ≤ length l) where
  down_room : (p + 1 + (n - (p + 1))) * w ≤ length l
  down_room = let q : p + 1 + (n - (p + 1)) ≡ n = omega arith in rw q r

  down_room' : (p + (n - (p + 1))) * w ≤ length l
  down_room' =
      let q : p + (n - (p + 1)) ≡ n - 1 = omega arith in
      rw q (omega (arith, part_end (n - 1) n w (omega arith)))

  pub down_long : length (shift_down w l p n) ≡ length l
  down_long = many_long w p (n - (p + 1)) l (out w (p + 1) (n - (p + 1)) l down_room) (out_long w (p + 1) (n - (p + 1)) l down_room) down_room'

  pub down_below : (i : ℕ) → i < p → part w (shift_down w l p n) i ≡ part w l i
  down_below i k =
      part_outside w p (p + (n - (p + 1))) l _ (many_outside w p (n - (p + 1)) l (out w (p + 1) (n - (p + 1)) l down_room) (out_long w (p + 1) (n - (p + 1)) l down_room) down_room') i (inl k)

  pub down_outside : Outside w p (n - 1) l (shift_down w l p n)
  down_outside =
      let q : p + (n - (p + 1)) ≡ n - 1 = omega arith in
      subst (λ (j : ℕ). Outside w p j l (shift_down w l p n)) q
      (many_outside w p (n - (p + 1)) l (out w (p + 1) (n - (p + 1)) l down_room) (out_long w (p + 1) (n - (p + 1)) l down_room) down_room')

  pub down_above : (i : ℕ) → p ≤ i → i < n - 1 → part w (shift_down w l p n) i ≡ part w l (i + 1)
  down_above i k m =
      let q : i ≡ p + (i - p) = omega arith in
      let q' : p + 1 + (i - p) ≡ i + 1 = omega arith in
      ap (λ (j : ℕ). part w (shift_down w l p n) j) q
      ∙ many_part w p (n - (p + 1)) l (out w (p + 1) (n - (p + 1)) l down_room) (out_long w (p + 1) (n - (p + 1)) l down_room) down_room' (i - p) (omega arith)
      ∙ out_part w (p + 1) (n - (p + 1)) l down_room (i - p) (omega arith)
      ∙ ap (λ (j : ℕ). part w l j) q'

-- ---- The first parts.

-- What is as it was behind some parts is so behind more.
pub past : (w k j n : ℕ) (old new : List ℕ) → j ≤ n → Outside w k j old new → drop (n * w) new ≡ drop (n * w) old
past w k j n old new h o =
    let q : j + (n - j) ≡ n = omega arith in
    ap (λ (x : ℕ). drop (x * w) new) (sym q) ∙ sym (drop_parts w j (n - j) new) ∙ ap (λ (l : List ℕ). drop ((n - j) * w) l) o.behind ∙ drop_parts w j (n - j) old
    ∙ ap (λ (x : ℕ). drop (x * w) old) q

-- What is put into the front of a list.
put_front : (p q x : List ℕ) (a : ℕ) → a + length x ≤ length p → put (p ++ q) a x ≡ put p a x ++ q
put_front p q x a h =
    let d : drop (length x) (drop a p ++ q) ≡ drop (length x) (drop a p) ++ q = drop-append-le (length x) (drop a p) q (rw length-drop (omega arith)) in
    rw (take-append-le a p q (omega arith), drop-append-le a p q (omega arith), d)
    (sym (append_assoc (take a p) (x ++ drop (length x) (drop a p)) q ∙ ap (λ (y : List ℕ). take a p ++ y) (append_assoc x (drop (length x) (drop a p)) q)))

pub cut_put : (l x : List ℕ) (a n : ℕ) → a + length x ≤ n → n ≤ length l → take n (put l a x) ≡ put (take n l) a x
cut_put l x a n h k =
    let e : length (take n l) ≡ n = length-take-le n l k in
    let f : a + length x ≤ length (take n l) = omega arith in
    ap (λ (y : List ℕ). take n (put y a x)) (sym (take-append-drop n l)) ∙ ap (λ (y : List ℕ). take n y) (put_front (take n l) (drop n l) x a f)
    ∙ take_at (put (take n l) a x) (drop n l) n (put_same_length (take n l) x a f ∙ e)

-- Three runs of words, of which the first two are all that is taken.
three : (a b c : List ℕ) (n : ℕ) → length a + length b ≡ n → take n (a ++ (b ++ c)) ≡ a ++ b
three a b c n e = ap (λ (y : List ℕ). take n y) (sym (append_assoc a b c)) ∙ take_at (a ++ b) c n (length-append a b ∙ e)

-- ---- A part put in its place.

module _ (w : ℕ) (l : List ℕ) (k n : ℕ) (x : List ℕ) (h : k < n) (r : n * w ≤ length l) (five : length x ≡ w) where
  behind_parts : (k + 1) * w + (n - (k + 1)) * w ≡ n * w
  behind_parts = let q : k + 1 + (n - (k + 1)) ≡ n = omega arith in sym (add-mul (k + 1) (n - (k + 1)) w) ∙ ap (λ (i : ℕ). i * w) q

  pub put_front_parts : take (n * w) (put l (k * w) x) ≡ take (k * w) l ++ (x ++ take ((n - (k + 1)) * w) (drop ((k + 1) * w) l))
  put_front_parts =
      let z : (k + 1) * w ≡ k * w + w = rw (add-one, suc-mul) in
      let m : List ℕ = take ((n - (k + 1)) * w) (drop ((k + 1) * w) l) in
      let a : length (take (k * w) l) ≡ k * w = length-take-le (k * w) l (omega (arith, behind_parts, z)) in
      let b : length m ≡ (n - (k + 1)) * w = length-take-le ((n - (k + 1)) * w) (drop ((k + 1) * w) l) (rw length-drop (omega (arith, behind_parts))) in
      let q : k * w + length x ≡ (k + 1) * w = omega (arith, z) in
      let d : drop (length x) (drop (k * w) l) ≡ m ++ drop ((n - (k + 1)) * w) (drop ((k + 1) * w) l) =
      drop-drop (length x) (k * w) l ∙ ap (λ (i : ℕ). drop i l) q ∙ sym (take-append-drop ((n - (k + 1)) * w) (drop ((k + 1) * w) l)) in
      ap (λ (y : List ℕ). take (n * w) (take (k * w) l ++ y)) (ap (λ (y : List ℕ). x ++ y) d ∙ sym (append_assoc x m _))
      ∙ three (take (k * w) l) (x ++ m) _ (n * w) (omega (arith, a, length-append x m, b, behind_parts, z))

-- ---- A part put between.

module _ (w : ℕ) (l : List ℕ) (p n : ℕ) (row : List ℕ) (h : p ≤ n) (r : (n + 1) * w ≤ length l) (five : length row ≡ w) where
  abbrev A : List ℕ
  A = take (p * w) l

  abbrev M : List ℕ
  M = take ((n - p) * w) (drop (p * w) l)

  long : n * w + w ≤ length l
  long = omega (arith, part_end n (n + 1) w (omega arith))

  parts : p * w + (n - p) * w ≡ n * w
  parts = let q : p + (n - p) ≡ n = omega arith in sym (add-mul p (n - p) w) ∙ ap (λ (x : ℕ). x * w) q

  a_long : length A ≡ p * w
  a_long = length-take-le (p * w) l (omega (arith, parts, long))

  m_long : length M ≡ (n - p) * w
  m_long = length-take-le ((n - p) * w) (drop (p * w) l) (rw length-drop (omega (arith, parts, long)))

  score_is : take (n * w) l ≡ A ++ M
  score_is = ap (λ (x : ℕ). take x l) (sym parts) ∙ take-add (p * w) ((n - p) * w) l

  place : (p + 1) * w ≡ p * w + w
  place = rw (add-one, suc-mul)

  front_long : length (take ((p + 1) * w) l) ≡ (p + 1) * w
  front_long = length-take-le ((p + 1) * w) l (omega (arith, place, parts, long))

  abbrev R : List ℕ
  R = drop (length M) (drop ((p + 1) * w) l)

  inserted : put (shift_up w l p n) (p * w) row ≡ A ++ (row ++ (M ++ R))
  inserted =
      let a : take (p * w) (shift_up w l p n) ≡ A = take-append-le (p * w) (take ((p + 1) * w) l) (M ++ R) (omega (arith, front_long, place)) ∙ take-take (p * w) ((p + 1) * w) l (omega (arith, place)) in
      let q : p * w + length row ≡ (p + 1) * w = omega (arith, place) in
      let b : drop (length row) (drop (p * w) (shift_up w l p n)) ≡ M ++ R =
      drop-drop (length row) (p * w) (shift_up w l p n) ∙ ap (λ (x : ℕ). drop x (shift_up w l p n)) q ∙ drop_at (take ((p + 1) * w) l) (M ++ R) ((p + 1) * w) front_long in
      ap (λ (x : List ℕ). x ++ (row ++ drop (length row) (drop (p * w) (shift_up w l p n)))) a ∙ ap (λ (x : List ℕ). A ++ (row ++ x)) b

  -- The parts below the new count: those before place p, the one put in, and the others.
  pub insert_front : take ((n + 1) * w) (put (shift_up w l p n) (p * w) row) ≡ A ++ (row ++ M)
  insert_front =
      let z : (n + 1) * w ≡ n * w + w = rw (add-one, suc-mul) in
      let q : length A + length (row ++ M) ≡ (n + 1) * w = omega (arith, a_long, length-append row M, m_long, five, parts, z) in
      ap (λ (x : List ℕ). take ((n + 1) * w) x) (inserted ∙ ap (λ (x : List ℕ). A ++ x) (sym (append_assoc row M R))) ∙ three A (row ++ M) R ((n + 1) * w) q

  -- So the first n parts, with one put between.
  pub cut_insert : take ((n + 1) * w) (put (shift_up w l p n) (p * w) row) ≡ take (p * w) (take (n * w) l) ++ (row ++ drop (p * w) (take (n * w) l))
  cut_insert =
      let a : take (p * w) (take (n * w) l) ≡ A = take-take (p * w) (n * w) l (omega (arith, parts)) in
      let b : drop (p * w) (take (n * w) l) ≡ M = ap (λ (x : List ℕ). drop (p * w) x) score_is ∙ drop_at A M (p * w) a_long in
      insert_front ∙ ap (λ (x : List ℕ). x ++ (row ++ M)) (sym a) ∙ ap (λ (x : List ℕ). take (p * w) (take (n * w) l) ++ (row ++ x)) (sym b)

  -- Where each part stands then.
  abbrev new : List ℕ
  new = put (shift_up w l p n) (p * w) row

  new_room : p * w + w ≤ length (shift_up w l p n)
  new_room = omega (arith, up_long w l p n h r, part_end p (n + 1) w (omega arith))

  new_outside : Outside w p (p + 1) (shift_up w l p n) new
  new_outside = put_outside w p (shift_up w l p n) row new_room five

  pub insert_long : length new ≡ length l
  insert_long = put_long w p (shift_up w l p n) row new_room five ∙ up_long w l p n h r

  pub insert_below : (i : ℕ) → i < p → part w new i ≡ part w l i
  insert_below i k = part_outside w p (p + 1) (shift_up w l p n) new new_outside i (inl k) ∙ up_below w l p n h r i (omega arith)

  pub insert_here : part w new p ≡ row
  insert_here = put_part w p (shift_up w l p n) row new_room five

  pub insert_above : (i : ℕ) → p + 1 ≤ i → i < n + 1 → part w new i ≡ part w l (i - 1)
  insert_above i k m = part_outside w p (p + 1) (shift_up w l p n) new new_outside i (inr k) ∙ up_above w l p n h r i k m

  pub insert_past : drop ((n + 1) * w) new ≡ drop ((n + 1) * w) l
  insert_past = past w p (p + 1) (n + 1) (shift_up w l p n) new (omega arith) new_outside ∙ (up_outside w l p n h r).behind

-- ---- A part taken out.

module _ (w : ℕ) (l : List ℕ) (p n : ℕ) (h : p < n) (r : n * w ≤ length l) where
  abbrev B : List ℕ
  B = take ((n - (p + 1)) * w) (drop ((p + 1) * w) l)

  pieces : (p + 1) * w + (n - (p + 1)) * w ≡ n * w
  pieces = let q : p + 1 + (n - (p + 1)) ≡ n = omega arith in sym (add-mul (p + 1) (n - (p + 1)) w) ∙ ap (λ (x : ℕ). x * w) q

  fewer : p * w + (n - (p + 1)) * w ≡ (n - 1) * w
  fewer = let q : p + (n - (p + 1)) ≡ n - 1 = omega arith in sym (add-mul p (n - (p + 1)) w) ∙ ap (λ (x : ℕ). x * w) q

  next_place : p * w + w ≤ (p + 1) * w
  next_place = part_end p (p + 1) w (omega arith)

  -- The parts below the new count: those before place p, and those behind it.
  pub remove_front : take ((n - 1) * w) (shift_down w l p n) ≡ take (p * w) l ++ B
  remove_front =
      let la : length (take (p * w) l) ≡ p * w = length-take-le (p * w) l (omega (arith, pieces, next_place)) in
      let lb : length B ≡ (n - (p + 1)) * w = length-take-le ((n - (p + 1)) * w) (drop ((p + 1) * w) l) (rw length-drop (omega (arith, pieces))) in
      three (take (p * w) l) B (drop (length B) (drop (p * w) l)) ((n - 1) * w) (omega (arith, la, lb, fewer))

  -- So the first n parts, with one taken out.
  pub cut_remove : take ((n - 1) * w) (shift_down w l p n) ≡ take (p * w) (take (n * w) l) ++ drop ((p + 1) * w) (take (n * w) l)
  cut_remove =
      let lf : length (take ((p + 1) * w) l) ≡ (p + 1) * w = length-take-le ((p + 1) * w) l (omega (arith, pieces)) in
      let a : take (p * w) (take (n * w) l) ≡ take (p * w) l = take-take (p * w) (n * w) l (omega (arith, pieces, next_place)) in
      let e : take (n * w) l ≡ take ((p + 1) * w) l ++ B = ap (λ (x : ℕ). take x l) (sym pieces) ∙ take-add ((p + 1) * w) ((n - (p + 1)) * w) l in
      let b : drop ((p + 1) * w) (take (n * w) l) ≡ B = ap (λ (x : List ℕ). drop ((p + 1) * w) x) e ∙ drop_at (take ((p + 1) * w) l) B ((p + 1) * w) lf in
      remove_front ∙ ap (λ (x : List ℕ). x ++ B) (sym a) ∙ ap (λ (x : List ℕ). take (p * w) (take (n * w) l) ++ x) (sym b)

-- ---- Laid over.

-- What begins with some numbers, and goes on as before, has them laid over it.
pub laid_is : (m : ℕ) (old new x : List ℕ) → m ≤ length new → take m new ≡ x → drop m new ≡ drop m old → new ≡ put old 0 x
laid_is m old new x h e f =
    let l : length x ≡ m = ap length (sym e) ∙ length-take-le m new h in
    sym (take-append-drop m new) ∙ ap (λ (y : List ℕ). y ++ drop m new) e ∙ ap (λ (y : List ℕ). x ++ y) (f ∙ ap (λ (i : ℕ). drop i old) (sym l))

pub part_of_cut : (w n i : ℕ) (l : List ℕ) → i < n → part w (take (n * w) l) i ≡ part w l i
part_of_cut w n i l h = sym (part_in_front w (n * w) (i * w) l (part_end i n w h))
