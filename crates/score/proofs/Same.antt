-- The test of equality of two lists is the definition of the same words.
use Rattle.std.proofs.Common.{◌≡◌, refl, ap, ℕ, List, [], ◌∷◌, ◌&&◌, eqb}
use lib.Pointwise.{pointwise}
use Rattle.lists.specs.Lists.{same}

pub same_is : (xs ys : List ℕ) → pointwise eqb xs ys ≡ same xs ys
unfolding same
same_is [] [] = refl
same_is [] (y ∷ ys) = refl
same_is (x ∷ xs) [] = refl
same_is (x ∷ xs) (y ∷ ys) = ap (λ b. eqb x y && b) (same_is xs ys)
