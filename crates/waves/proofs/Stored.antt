-- The corners stored to a lent list and loaded again: eight stores in a row are a part of the list put in, so the eight just stored load as they are, and those before them stay.
use Rattle.std.proofs.Common.{◌≡◌, ◌∙◌, subst, List, [], ◌∷◌, ◌++◌, append_assoc, ℕ, suc, ◌+◌, ◌*◌, ◌<◌, add-one, arith, length, get_or, take, drop, length-take-le, get_or-append-add, get_or-take, below_more, ℤ, Float}
use Rattle.std.proofs.Math.ListN.{get_or-append}
use Rattle.std.proofs.Math.Seq.{sets-eq, get_or-append_seam}
use Rattle.std.specs.Float.{nan}
use Rattle.waves.specs.Waves.{corners_at}
use Rattle.waves.specs.Stages.{loaded, stored, corner, corners_of, CornersRead}

-- the eight corners in the order of their stores
abbrev in_order : List (List (List Float)) → List Float
in_order c =
    corner c 0 0 0 ∷ corner c 0 0 1 ∷ corner c 0 1 0 ∷ corner c 0 1 1 ∷ corner c 1 0 0 ∷ corner c 1 0 1 ∷ corner c 1 1 0 ∷ corner c 1 1 1 ∷ []

module _ (l : List Float) (at : ℕ) (c : List (List (List Float))) (fits : at + 7 < length l) where
  put_in : stored l at c ≡ take at l ++ (in_order c ++ drop (at + 8) l)
  unfolding stored
  put_in =
      let e2 : at + 2 ≡ suc (suc at) = omega arith in
      let e3 : at + 3 ≡ suc (suc (suc at)) = omega arith in
      let e4 : at + 4 ≡ suc (suc (suc (suc at))) = omega arith in
      let e5 : at + 5 ≡ suc (suc (suc (suc (suc at)))) = omega arith in
      let e6 : at + 6 ≡ suc (suc (suc (suc (suc (suc at))))) = omega arith in
      let e7 : at + 7 ≡ suc (suc (suc (suc (suc (suc (suc at)))))) = omega arith in
      rw (add-one at, e2, e3, e4, e5, e6, e7) (sets-eq (in_order c) l at (omega arith) ∙ append_assoc (take at l) (in_order c) (drop (at + 8) l))

  long : length (take at l) ≡ at
  long = length-take-le at l (omega arith)

  stored_before : (m : ℕ) → m < at → get_or (stored l at c) m nan ≡ get_or l m nan
  stored_before m h = rw put_in (get_or-append (take at l) _ nan m (rw long h) ∙ get_or-take at l m nan h)

  -- the eight before stay
  pub loads_before : (m : ℕ) → m + 7 < at → loaded (stored l at c) m ≡ loaded l m
  unfolding loaded
  loads_before m h =
      rw (
        stored_before m (omega arith),
        stored_before (m + 1) (omega arith),
        stored_before (m + 2) (omega arith),
        stored_before (m + 3) (omega arith),
        stored_before (m + 4) (omega arith),
        stored_before (m + 5) (omega arith),
        stored_before (m + 6) (omega arith),
        stored_before (m + 7) (omega arith),
      )

loads_part : (p q : List Float) (a b c d e f g h : Float) → loaded (p ++ (a ∷ b ∷ c ∷ d ∷ e ∷ f ∷ g ∷ h ∷ q)) (length p) ≡ ((a ∷ b ∷ []) ∷ (c ∷ d ∷ []) ∷ []) ∷ ((e ∷ f ∷ []) ∷ (g ∷ h ∷ []) ∷ []) ∷ []
unfolding loaded
loads_part p q a b c d e f g h = simp (get_or-append_seam, get_or-append-add)

-- the corners just stored
pub loads_same : (l : List Float) (at : ℕ) (bank : List ℤ) (p x y z : ℕ) (t : Float) → at + 7 < length l → loaded (stored l at (corners_at bank p t x y z)) at ≡ corners_at bank p t x y z
unfolding corners_at
loads_same l at bank p x y z t h =
    let c = corners_at bank p t x y z in
    rw (put_in l at c h)
    (subst (λ (n : ℕ). loaded (take at l ++ (in_order c ++ drop (at + 8) l)) n ≡ c) (long l at c h) (loads_part (take at l) (drop (at + 8) l) _ _ _ _ _ _ _ _))

-- the readings go on: one more frame's corners are stored
module _ (bank : List ℤ) (keys : List ℕ) (phases : List Float) where
  pub one_more_read : (l : List Float) (i : ℕ) → i * 8 + 7 < length l → CornersRead bank keys phases l i
      → CornersRead bank keys phases (stored l (i * 8) (corners_of bank (get_or keys i 0) (get_or phases i nan))) (i + 1)
  one_more_read l i h r =
      record {
        each_read = below_more _ _
            (λ j q. loads_before l (i * 8) _ h (j * 8) (omega arith) ∙ r.each_read j q)
            (loads_same l (i * 8) bank _ _ _ _ _ h);
      }
