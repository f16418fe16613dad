-- One number more of the series stands behind those that there are.
use Rattle.std.proofs.Common.{◌≡◌, refl, ap, ℕ, zero, suc, ◌+◌, add-one, [], ◌∷◌, ◌++◌}
use Rattle.trial.specs.Trial.{next_of, numbers, number_after}

pub number_after-more : (n s : ℕ) → number_after (n + 1) s ≡ next_of (number_after n s)
unfolding number_after
number_after-more zero s = refl
number_after-more (suc n) s = rw add-one (rw add-one at (number_after-more n (next_of s)))

pub numbers-more : {A : Type 0} (f : ℕ → A) (n s : ℕ) → numbers f (n + 1) s ≡ numbers f n s ++ f (next_of (number_after n s)) ∷ []
unfolding numbers number_after
numbers-more f zero s = refl
numbers-more f (suc n) s = rw add-one (ap (λ l. f (next_of s) ∷ l) (rw add-one at (numbers-more f n (next_of s))))

pub ruleset more = (number_after-more, numbers-more)
