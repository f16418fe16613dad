-- Laws of blocks of frames, for any step of any states: the last frame first, a frame by its number, and a part of the state that goes its own way.
use Rattle.std.proofs.Common.{◌≡◌, refl, sym, ap, ◌∙◌, List, [], ◌∷◌, ◌++◌, ℕ, zero, suc, ◌+◌, ◌*◌, ◌<◌, zero-le, le_of_suc-le-suc, not-suc-le-zero, add-one, arith, length, get_or, set, length-set, get_or-set_same, get_or-set_other, ext_get_or, below_more}
use Rattle.utils.specs.Holds.{none, plus, total, AtMost}
use Rattle.utils.specs.Frames.{state_after, each_of, sum_of, Filled}
use Rattle.utils.specs.declared.holds.Holds.{Holds}
use Rattle.utils.proofs.Sums.{total_snoc, most_none, most_more, most_plus}

module _ {S : Type 0} (next : S → S) where
  pub after_suc : (n : ℕ) (s : S) → state_after next (suc n) s ≡ next (state_after next n s)
  unfolding state_after
  after_suc zero s = refl
  after_suc (suc n) s = after_suc n (next s)

  pub each_length : {A : Type 0} (f : S → A) (n : ℕ) (s : S) → length (each_of next f n s) ≡ n
  unfolding each_of
  each_length f zero s = refl
  each_length f (suc n) s = ap suc (each_length f n (next s))

  -- frame j of a block begins with the state after j frames
  pub each_at : {A : Type 0} (f : S → A) (d : A) (n : ℕ) (s : S) (j : ℕ) → j < n → get_or (each_of next f n s) j d ≡ f (state_after next j s)
  unfolding each_of state_after
  each_at f d zero s j h = absurd (not-suc-le-zero h)
  each_at f d (suc n) s zero h = refl
  each_at f d (suc n) s (suc j) h = each_at f d n (next s) j (le_of_suc-le-suc h)

  pub each_suc : {A : Type 0} (f : S → A) (n : ℕ) (s : S) → each_of next f (suc n) s ≡ each_of next f n s ++ (f (state_after next n s) ∷ [])
  unfolding each_of state_after
  each_suc f zero s = refl
  each_suc f (suc n) s = ap (λ (l : List _). f s ∷ l) (each_suc f n (next s))

  pub sum_suc : (f : S → Holds) (n : ℕ) (s : S) → sum_of next f (suc n) s ≡ plus (sum_of next f n s) (f (state_after next n s))
  sum_suc f n s = ap total (each_suc f n s) ∙ total_snoc _ _

  -- frames that hold at most k each
  pub sum_most : (f : S → Holds) (k : ℕ) → ((s : S) → AtMost k (f s)) → (n : ℕ) (s : S) → AtMost (k * n) (sum_of next f n s)
  unfolding each_of total
  sum_most f k h zero s = most_none (k * 0)
  sum_most f k h (suc n) s = most_more (omega arith) (most_plus (h s) (sum_most f k h n (next s)))

  -- a part of the state whose next value follows from its own value alone
  pub part_after : {P : Type 0} (part : S → P) (step : P → P) → ((s : S) → part (next s) ≡ step (part s)) → (n : ℕ) (s : S) → part (state_after next n s) ≡ state_after step n (part s)
  unfolding state_after
  part_after part step h zero s = refl
  part_after part step h (suc n) s = part_after part step h n (next s) ∙ ap (state_after step n) (h s)

  -- what each frame gives, where that follows from such a part
  pub part_each : {P A : Type 0} (part : S → P) (step : P → P) (f : S → A) (g : P → A)
      → ((s : S) → part (next s) ≡ step (part s)) → ((s : S) → f s ≡ g (part s)) → (n : ℕ) (s : S) → each_of next f n s ≡ each_of step g n (part s)
  unfolding each_of
  part_each part step f g h e zero s = refl
  part_each part step f g h e (suc n) s =
      ap (λ (x : _). x ∷ each_of next f n (next s)) (e s)
      ∙ ap (λ (l : List _). g (part s) ∷ l) (part_each part step f g h e n (next s) ∙ ap (each_of step g n) (h s))

  -- a loop that carries a state and a sum, one turn on
  pub after_more : (i : ℕ) (s₀ s t : S) → t ≡ next s → s ≡ state_after next i s₀ → t ≡ state_after next (i + 1) s₀
  after_more i s₀ s t e h = rw (add-one, after_suc i s₀) (e ∙ ap next h)

  pub sum_more : (f : S → Holds) (i : ℕ) (s₀ s : S) (h v : Holds) → h ≡ sum_of next f i s₀ → s ≡ state_after next i s₀ → v ≡ f s → plus h v ≡ sum_of next f (i + 1) s₀
  sum_more f i s₀ s h v p q e = rw (add-one, sum_suc f i s₀) (ap (λ (a : Holds). plus a v) p ∙ ap (plus (sum_of next f i s₀)) (e ∙ ap f q))

-- ---- frames by their numbers
after_count : (n : ℕ) → state_after suc n 0 ≡ n
unfolding state_after
after_count zero = refl
after_count (suc n) = after_suc suc n 0 ∙ ap suc (after_count n)

pub count_suc : (f : ℕ → Holds) (n : ℕ) → sum_of suc f (suc n) 0 ≡ plus (sum_of suc f n 0) (f n)
count_suc f n = sum_suc suc f n 0 ∙ ap (λ (k : ℕ). plus (sum_of suc f n 0) (f k)) (after_count n)

pub count_none : (f : ℕ → Holds) → none ≡ sum_of suc f 0 0
unfolding each_of total
count_none f = refl

pub count_more : (f : ℕ → Holds) (h v : Holds) (i : ℕ) → h ≡ sum_of suc f i 0 → v ≡ f i → plus h v ≡ sum_of suc f (i + 1) 0
count_more f h v i e q = rw (add-one, count_suc, e, q)

-- what frames hold, where each one's follows from its number
pub count_frames : {S : Type 0} (next : S → S) (h : S → Holds) (s : S) (f : ℕ → Holds) (n : ℕ)
    → ((i : ℕ) → i < n → h (state_after next i s) ≡ f i) → sum_of next h n s ≡ sum_of suc f n 0
unfolding each_of total
count_frames next h s f zero e = refl
count_frames next h s f (suc n) e =
    sum_suc next h n s ∙ rw (count_frames next h s f n (λ i l. e i (omega arith)), e n (omega arith)) (sym (count_suc f n))

-- ---- lists that a loop fills from the front
module _ {A : Type 0} (f : ℕ → A) (d : A) where
  pub filled_none : (xs : List A) → Filled f d xs 0
  filled_none xs = record { room = zero-le; done = λ j h. absurd (not-suc-le-zero h) }

  pub filled_more : (xs : List A) (i : ℕ) (v : A) → i < length xs → v ≡ f i → Filled f d xs i → Filled f d (set xs i v) (i + 1)
  filled_more xs i v l e p =
      record {
        room = rw (length-set xs i v) (omega arith);
        done = below_more _ _ (λ j h. get_or-set_other xs i j v d (λ q. absurd (omega arith)) ∙ p.done j h) (get_or-set_same xs i v d l ∙ e);
      }

  -- a list that is filled to its end
  pub filled_all : (xs ys : List A) → length ys ≡ length xs → ((j : ℕ) → j < length xs → get_or ys j d ≡ f j) → Filled f d xs (length xs) → xs ≡ ys
  filled_all xs ys e h p = ext_get_or d xs ys (sym e) (λ j l. p.done j l ∙ sym (h j l))

-- a list with an entry for each frame, made from what is said of its number
pub filled_each : {S A B : Type 0} (next : S → S) (word : B → A) (d : A) (v : ℕ → B) (g : S → B) (xs : List A) (n : ℕ) (s : S)
    → length xs ≡ n → ((j : ℕ) → j < n → v j ≡ g (state_after next j s)) → Filled (λ j. word (v j)) d xs n → xs ≡ each_of next (λ t. word (g t)) n s
filled_each next word d v g xs n s e same p =
    filled_all _ d xs (each_of next (λ t. word (g t)) n s) (each_length next _ n s ∙ sym e)
    (λ j h. let l : j < n = omega arith in each_at next _ d n s j l ∙ ap word (sym (same j l)))
    (rw e p)
