-- Document 01, "Path and terrain voice": what is lent, and which layers there are then.
use Rattle.std.specs.Prelude.{ℕ, ◌≡◌, ◌⊎◌, cond, List, eqb, ℤ, length}
use Rattle.std.specs.Coded.{Coded-set, coded_ℕ}
use Rattle.std.proofs.Common.{inl, inr, ap, sym, ◌∙◌, suc-ne-zero}
use Rattle.oscillator.specs.Bank.{bank_length}
use Rattle.terrain.specs.Heights.{map_length}

-- What is lent: a bank, and a map or none, "a slice, length 0 for none".
pub record Lent (bank : List ℤ) (map : List ℕ) : Type 0 where
  pub bank_long : length bank ≡ bank_length
  pub map_long : (length map ≡ 0) ⊎ (length map ≡ map_length)

-- That is known in one way only, since no map has both lengths.
lengths-prop : (n : ℕ) → IsProp ((n ≡ 0) ⊎ (n ≡ map_length))
lengths-prop n (inl e) (inl f) = ap inl (Coded-set coded_ℕ n 0 e f)
lengths-prop n (inl e) (inr f) = absurd (suc-ne-zero 4095 (sym f ∙ e))
lengths-prop n (inr e) (inl f) = absurd (suc-ne-zero 4095 (sym e ∙ f))
lengths-prop n (inr e) (inr f) = ap inr (Coded-set coded_ℕ n map_length e f)

pub Lent-prop : (bank : List ℤ) (map : List ℕ) → IsProp (Lent bank map)
Lent-prop bank map a b =
    λ i. record { bank_long = Coded-set coded_ℕ (length bank) bank_length a.bank_long b.bank_long i; map_long = lengths-prop (length map) a.map_long b.map_long i }

-- "Layers 0 to 7, and 8 with a map."
abbrev pub num_terrains : List ℕ → ℕ
num_terrains map = cond (eqb (length map) 0) 8 9

-- "The whole layer number is held at 6 without a map and 7 with one".
abbrev pub top : ℕ
top = 6

abbrev pub top_with_map : ℕ
top_with_map = 7

abbrev pub layer_top : List ℕ → ℕ
layer_top map = cond (eqb (length map) 0) top top_with_map
