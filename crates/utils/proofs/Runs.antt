-- A lent run that a loop fills keeps its length and what stands past the filled part; what it begins with is what the loop's frames give, since both are read alike at each entry.
use Rattle.std.proofs.Common.{◌≡◌, refl, sym, ap, ◌∙◌, List, ◌++◌, ℕ, ◌+◌, ◌<◌, add-zero, arith, length, get_or, set, take, drop, length-set, take-append-drop, length-take-le, get_or-take, get_or-drop, ext_get_or, drop-set-lt, drop-drop, take_at}
use Rattle.utils.specs.Frames.{state_after, each_of, Filled}
use Rattle.utils.proofs.Frames.{filled_none, filled_more, each_length, each_at}

-- a lent run, filled up to i: its first i entries are what f says of their places
pub record Filling {A : Type 0} (f : ℕ → A) (d : A) (xs₀ xs : List A) (i : ℕ) : Type 0 where
  pub long : length xs ≡ length xs₀
  pub filled : Filled f d xs i
  pub rest : drop i xs ≡ drop i xs₀

module _ {A : Type 0} (f : ℕ → A) (d : A) where
  pub filling_none : (xs : List A) → Filling f d xs xs 0
  filling_none xs = record { long = refl; filled = filled_none f d xs; rest = refl }

  pub filling_more : (xs₀ xs : List A) (i : ℕ) (v : A) → i < length xs₀ → v ≡ f i → Filling f d xs₀ xs i → Filling f d xs₀ (set xs i v) (i + 1)
  filling_more xs₀ xs i v l e p =
      record {
        long = length-set xs i v ∙ p.long;
        filled = filled_more f d xs i v (rw p.long l) e p.filled;
        rest = drop-set-lt (i + 1) xs i v (omega arith) ∙ sym (drop-drop 1 i xs) ∙ ap (drop 1) p.rest ∙ drop-drop 1 i xs₀;
      }

  -- the next entry still stands as it was lent
  pub filling_next : (xs₀ xs : List A) (i : ℕ) → Filling f d xs₀ xs i → get_or xs i d ≡ get_or xs₀ i d
  filling_next xs₀ xs i p = sym (here xs) ∙ ap (λ (l : List A). get_or l 0 d) p.rest ∙ here xs₀
    where
      here : (l : List A) → get_or (drop i l) 0 d ≡ get_or l i d
      here l = get_or-drop i l 0 d ∙ ap (λ (k : ℕ). get_or l k d) (add-zero i)

module _ {S A : Type 0} (next : S → S) (f : S → A) (d : A) where
  begins_with : (xs : List A) (n : ℕ) (s : S) → Filled (λ j. f (state_after next j s)) d xs n → take n xs ≡ each_of next f n s
  begins_with xs n s p =
      let e : length (take n xs) ≡ n = length-take-le n xs p.room in
      ext_get_or d (take n xs) (each_of next f n s) (e ∙ sym (each_length next f n s))
      (λ j h. let l : j < n = rw e at h in get_or-take n xs j d l ∙ p.done j l ∙ sym (each_at next f d n s j l))

  -- what n frames give, and then what stood there
  pub filled_run : (xs₀ xs : List A) (n : ℕ) (s : S) → Filling (λ j. f (state_after next j s)) d xs₀ xs n → xs ≡ each_of next f n s ++ drop n xs₀
  filled_run xs₀ xs n s p = sym (take-append-drop n xs) ∙ rw (begins_with xs n s p.filled, p.rest)

  -- such a run's first n
  pub run_taken : (xs rest : List A) (n : ℕ) (s : S) → xs ≡ each_of next f n s ++ rest → take n xs ≡ each_of next f n s
  run_taken xs rest n s e = rw e (take_at (each_of next f n s) rest n (each_length next f n s))
