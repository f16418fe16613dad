-- What oversamples hold, summed: two for each frame.
use Rattle.std.proofs.Common.{◌≡◌, sym, ap, ◌∙◌, ℕ, zero, suc, ◌+◌, ◌*◌, ◌<◌, arith}
use Rattle.utils.specs.Holds.{none, plus, total}
use Rattle.utils.specs.Frames.{state_after, each_of, sum_of}
use Rattle.utils.specs.declared.holds.Holds.{Holds}
use Rattle.utils.proofs.Sums.{plus_none, plus_assoc, plus_four}
use Rattle.utils.proofs.Frames.{sum_suc, count_suc}

-- the oversamples of two layers, two for each frame
module _ {S : Type 0} (next : S → S) (h : S → Holds) (s : S) (f g : ℕ → Holds) where
  -- what frame i holds
  abbrev four : ℕ → Holds
  four i = plus (plus (f (i * 2)) (g (i * 2))) (plus (f (i * 2 + 1)) (g (i * 2 + 1)))

  two_more : (e : ℕ → Holds) (n : ℕ) → sum_of suc e (suc n * 2) 0 ≡ plus (sum_of suc e (n * 2) 0) (plus (e (n * 2)) (e (n * 2 + 1)))
  two_more e n =
      let twice : suc n * 2 ≡ suc (suc (n * 2)) = omega arith in
      let odd : suc (n * 2) ≡ n * 2 + 1 = omega arith in
      ap (λ (k : ℕ). sum_of suc e k 0) twice ∙ count_suc e (suc (n * 2)) ∙ rw (count_suc e (n * 2), odd) (plus_assoc _ _ _)

  pub count_pairs : (n : ℕ) → ((i : ℕ) → i < n → h (state_after next i s) ≡ four i) → sum_of next h n s ≡ plus (sum_of suc f (n * 2) 0) (sum_of suc g (n * 2) 0)
  unfolding each_of total
  count_pairs zero p = sym (plus_none none)
  count_pairs (suc n) p =
      sum_suc next h n s
      ∙ rw (count_pairs n (λ i l. p i (omega arith)), p n (omega arith), two_more f n, two_more g n)
      (ap (plus (plus (sum_of suc f (n * 2) 0) (sum_of suc g (n * 2) 0))) (plus_four _ _ _ _) ∙ plus_four _ _ _ _)
