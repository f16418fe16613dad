-- Comparing lists, and a part that is lent and comes back: it is a `put`.
use Rattle.std.proofs.Common.{◌≡◌, refl, sym, ap, ◌∙◌, List, [], ◌∷◌, ◌++◌, Bool, true, false, ◌↔◌, ℕ, ◌+◌, ◌-◌, ◌≤◌, arith, eqb, eq-eqb, eqb-true, length, take, drop, length-take, length-drop}
use Rattle.std.proofs.lemmas.Bool.{false≢true}
use Rattle.lists.specs.Lists.{put, same}
use Rattle.lists.proofs.Cases.{both}

-- ---- Comparing.

-- The same words are one list.
pub same_eq : (xs ys : List ℕ) → same xs ys ≡ true → xs ≡ ys
unfolding same
same_eq [] [] e = refl
same_eq [] (y ∷ ys) e = absurd (false≢true e)
same_eq (x ∷ xs) [] e = absurd (false≢true e)
same_eq (x ∷ xs) (y ∷ ys) e =
    let t = both (eqb x y) (same xs ys) e in
    ap (λ (z : ℕ). z ∷ xs) (eqb-true x y t.0) ∙ ap (λ (zs : List ℕ). y ∷ zs) (same_eq xs ys t.1)

pub same_refl : (xs : List ℕ) → same xs xs ≡ true
unfolding same
same_refl [] = refl
same_refl (x ∷ xs) = rw (eq-eqb x x refl) (same_refl xs)

-- What decides whether two lists are equal says whether they are the same.
pub same_by : (r : Bool) (xs ys : List ℕ) → (r ≡ true) ↔ (xs ≡ ys) → r ≡ same xs ys
same_by true xs ys h = sym (ap (λ (zs : List ℕ). same zs ys) (h.0 refl) ∙ same_refl ys)
same_by false xs ys h = go (same xs ys) refl
  where
    go : (b : Bool) → same xs ys ≡ b → false ≡ same xs ys
    go true e = absurd (false≢true (h.1 (same_eq xs ys e)))
    go false e = sym e

-- ---- A part that is lent and comes back.

pub part_long : (l : List ℕ) (a f : ℕ) → a + f ≤ length l → length (take (a + f - a) (drop a l)) ≡ f
part_long l a f h = rw (length-take, length-drop) (omega arith)

-- What a callee left in a lent part, said of the whole.
pub put_is : (l : List ℕ) (a f : ℕ) (xs ys : List ℕ) → a + f ≤ length l → xs ≡ ys → length xs ≡ length (take (a + f - a) (drop a l))
    → take a l ++ (xs ++ drop (a + f - a) (drop a l)) ≡ put l a ys
put_is l a f xs ys h e g =
    let d : a + f - a ≡ length xs = omega (arith, g ∙ part_long l a f h) in
    rw (d, e)
