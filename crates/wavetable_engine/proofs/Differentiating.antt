-- The differentiator's stage goes on: one more sample is stored, and the state is that of one more frame.
use Rattle.std.proofs.Common.{◌≡◌, refl, ap, List, ℕ, ◌+◌, ◌<◌, add-one, length, get_or, set, Float}
use Rattle.std.specs.Float.{nan}
use Rattle.utils.proofs.Runs.{Filling, filling_none, filling_more}
use Rattle.wavetable_engine.specs.Stages.{Differentiating, differentiate, differentiating, sample_of}

-- the sample of frame j
abbrev pub sample_at : List Float → Differentiating → ℕ → Float
sample_at readings start j = sample_of (get_or readings j nan) (differentiating readings j start)

pub record Going (readings : List Float) (start : Differentiating) (samples₀ samples : List Float) (s : Differentiating) (i : ℕ) : Type 0 where
  pub state_is : s ≡ differentiating readings i start
  pub samples_are : Filling (sample_at readings start) nan samples₀ samples i

module _ (readings : List Float) (start : Differentiating) (samples₀ : List Float) where
  pub begins : Going readings start samples₀ samples₀ start 0
  unfolding differentiating
  begins = record { state_is = refl; samples_are = filling_none _ _ samples₀ }

  pub goes_on : (samples : List Float) (s : Differentiating) (i : ℕ) → i < length samples₀ → Going readings start samples₀ samples s i
      → Going readings start samples₀ (set samples i (sample_of (get_or readings i nan) s)) (differentiate (get_or readings i nan) s) (i + 1)
  unfolding differentiating
  goes_on samples s i l g =
      record {
        state_is = rw (add-one) (ap (differentiate (get_or readings i nan)) g.state_is);
        samples_are = filling_more _ _ samples₀ samples i _ l (ap (sample_of (get_or readings i nan)) g.state_is) g.samples_are;
      }
