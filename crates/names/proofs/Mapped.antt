-- A list filled from the front with what a function makes of another's elements.
use Rattle.std.proofs.Common.{◌≡◌, refl, sym, ◌∙◌, ap, subst, ℕ, zero, suc, ◌+◌, ◌≤◌, ◌<◌, List, [], ◌∷◌, map, take, take-suc, take-suc-set, take_all, set, get_or, length, length-set, add-one, arith}
use Rattle.std.proofs.lemmas.List.{map-append}
use denote.Param.Members.{Mut, Called}
use Rattle.std.specs.Array.{IsFromFnResultFrom, IsFromFnResult}

pub record Mapped {X Y : Type 0} (f : X → Y) (xs : List X) (ys : List Y) (k : ℕ) : Type 0 where
  pub long : length ys ≡ length xs
  pub made : take k ys ≡ map f (take k xs)

module _ {X Y : Type 0} (f : X → Y) (xs : List X) (ys : List Y) (k : ℕ) (m : Mapped f xs ys k) where
  pub mapped_more : (x : X) (y : Y) → k < length xs → y ≡ f (get_or xs k x) → Mapped f xs (set ys k y) (k + 1)
  mapped_more x y h e =
      record {
        long = length-set ys k y ∙ m.long;
        made = rw (add-one, take-suc-set ys k y (omega (arith, m.long)), take-suc xs k x h, m.made, e) (sym (map-append f (take k xs) (get_or xs k x ∷ [])));
      }

  pub mapped_all : length xs ≤ k → ys ≡ map f xs
  mapped_all h = sym (take_all k ys (omega (arith, m.long))) ∙ m.made ∙ ap (map f) (take_all k xs h)

-- ---- an array that a closure makes, which each call leaves as it is
module _ {X Y F : Type 0} (g : Mut F (ℕ × Unit {0}) Y) (f : F) (h : X → Y) (xs : List X) (ys : List Y)
    (calls : (k : ℕ) (y : Y) (q : F) → k < length xs → Called g f (k, tt) y q → (q ≡ f) × (x : X) × (y ≡ h (get_or xs k x))) where
  one_more : (i : ℕ) (x : X) (y : Y) → i < length xs → get_or ys i y ≡ y → y ≡ h (get_or xs i x) → Mapped h xs ys i → Mapped h xs ys (i + 1)
  one_more i x y l at e m =
      record {
        long = m.long;
        made = rw (add-one, take-suc ys i y (omega (arith, m.long)), take-suc xs i x l, m.made, at, e) (sym (map-append h (take i xs) (get_or xs i x ∷ [])));
      }

  made_from : (n i : ℕ) (p : F) → p ≡ f → i + n ≡ length xs → Mapped h xs ys i → IsFromFnResultFrom g p ys i n → ys ≡ map h xs
  made_from zero i p e l m r = mapped_all h xs ys i m (omega arith)
  made_from (suc n) i p e l m (q, y, at, called, rest) =
      let c = calls i y q (omega arith) (subst (λ (p : F). Called g p (i, tt) y q) e called) in
      made_from n (i + 1) q c.0 (omega arith) (one_more i c.1 y (omega arith) at.0 c.2 m) rest

  pub made_by : (n : ℕ) → length xs ≡ n → IsFromFnResult g f ys n → ys ≡ map h xs
  made_by n l r = made_from n 0 f refl (omega arith) (record { long = r.long ∙ sym l; made = refl }) r.each
