-- A block of frames, for any voice: each frame is made from the state that the frame before it left.
use Rattle.std.specs.Prelude.{ℕ, zero, suc, ◌≤◌, ◌<◌, ◌≡◌, List, [], ◌∷◌, length, get_or}
use Rattle.utils.specs.Holds.{total}
use Rattle.utils.specs.declared.holds.Holds.{Holds}

module _ {S : Type 0} (next : S → S) where
  -- The state after n frames.
  unfoldable pub state_after : ℕ → S → S
  state_after zero s = s
  state_after (suc n) s = state_after n (next s)

  -- What each of n frames gives, by the state that it begins with.
  unfoldable pub each_of : {A : Type 0} → (S → A) → ℕ → S → List A
  each_of f zero s = []
  each_of f (suc n) s = f s ∷ each_of f n (next s)

  -- What n frames hold, together.
  abbrev pub sum_of : (S → Holds) → ℕ → S → Holds
  sum_of f n s = total (each_of f n s)

-- A list that a loop fills from the front: the first i entries are what f says of their places.
pub record Filled {A : Type 0} (f : ℕ → A) (d : A) (xs : List A) (i : ℕ) : Type 0 where
  pub room : i ≤ length xs
  pub done : (j : ℕ) → j < i → get_or xs j d ≡ f j
