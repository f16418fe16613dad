-- A list filled part after part, from the front: what is filled, and what the parts that are left give, is all.
use Rattle.std.proofs.Common.{◌≡◌, refl, sym, ap, ◌∙◌, List, [], ◌++◌, append-nil, append_assoc, ℕ, ◌+◌, ◌-◌, ◌*◌, ◌≤◌, ◌<◌, suc-mul, add-one, arith, length, take, drop, length-append, length-drop, length-take-le, take_at, take_all}
use Rattle.lists.proofs.Places.{part_end}

-- Of n parts of w the first i are filled; `rest i` is what the parts from i on are to hold.
pub record Filled (w n : ℕ) (rest : ℕ → List ℕ) (l : List ℕ) (i : ℕ) : Type 0 where
  pub at : i ≤ n
  pub long : length l ≡ n * w
  pub left : take (i * w) l ++ rest i ≡ rest 0

module _ (w n : ℕ) (rest : ℕ → List ℕ) (l : List ℕ) where
  module _ (i : ℕ) (h : i < n) (x : List ℕ) (e : length x ≡ w) (f : Filled w n rest l i) where
    span : i * w + w - i * w ≡ w
    span = omega arith

    fits : i * w + w ≤ length l
    fits = omega (arith, f.long, part_end i n w h)

    front : length (take (i * w) l ++ x) ≡ (i + 1) * w
    front = rw (length-append, length-take-le (i * w) l (omega (arith, fits)), e, add-one, suc-mul) refl

    abbrev filled : List ℕ
    filled = take (i * w) l ++ (x ++ drop (i * w + w - i * w) (drop (i * w) l))

    pub same_long : length filled ≡ length l
    same_long = rw (span, length-append, length-append, length-take-le (i * w) l (omega (arith, fits)), length-drop, length-drop) (omega (arith, e, fits))

    pub fill_goes_on : rest i ≡ x ++ rest (i + 1) → Filled w n rest filled (i + 1)
    fill_goes_on r =
        let t : take ((i + 1) * w) filled ≡ take (i * w) l ++ x =
        ap (take ((i + 1) * w)) (sym (append_assoc (take (i * w) l) x _)) ∙ take_at (take (i * w) l ++ x) _ ((i + 1) * w) front in
        record {
          at = omega arith;
          long = same_long ∙ f.long;
          left = ap (λ (z : List ℕ). z ++ rest (i + 1)) t ∙ append_assoc (take (i * w) l) x (rest (i + 1)) ∙ ap (λ (z : List ℕ). take (i * w) l ++ z) (sym r) ∙ f.left;
        }

  pub fill_ends : (i : ℕ) → n ≤ i → rest n ≡ [] → Filled w n rest l i → l ≡ rest 0
  fill_ends i h r f =
      let e : i ≡ n = omega (arith, f.at) in
      let t : take (i * w) l ≡ l = rw e (take_all (n * w) l (omega (arith, f.long))) in
      sym (ap (λ (z : List ℕ). z ++ rest i) t ∙ ap (λ (j : ℕ). l ++ rest j) e ∙ ap (λ (z : List ℕ). l ++ z) r ∙ append-nil l) ∙ f.left
