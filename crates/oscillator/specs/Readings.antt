-- Document 01, "Interpolators and differentiator" (`wavetable_oscillator.rs`), and `interpolate_integrated_wave` of `wave_terrain_engine.rs`; before
-- them the two lines on phase and coefficient that the wavetable voice and the plain oscillator have alike.
-- The readings are over any element that has a float; `none` is what stands past a table's end, where nothing reads.
use Rattle.std.specs.Prelude.{ℕ, ◌+◌, cond, List, ℤ, get_or, Float}
use Rattle.std.specs.Float.{binary32}
use Rattle.std.specs.Float.Ieee.{le, of_int}
use Rattle.words.specs.Binary32.{◌⊕◌, ◌⊖◌, ◌⊗◌, decimal, of_count}
use Rattle.utils.specs.Utils.{min_of, one_pole}
use Rattle.oscillator.specs.Bank.{table_size_f}
use Rattle.oscillator.specs.declared.wavetable_oscillator.Differentiator.{Differentiator}
use Rattle.oscillator.specs.declared.wavetable_oscillator.Differentiated.{Differentiated}

-- The phase one frame on: `phase += f0`, and 1 less from 1 on.
abbrev pub advanced : Float → Float → Float
advanced phase f0 = cond (le (decimal 1 0) (phase ⊕ f0)) (phase ⊕ f0 ⊖ decimal 1 0) (phase ⊕ f0)

-- The coefficient of the filters that a reading goes through: `f32::min(TABLE_SIZE_F * f0, 1.0)`.
unfoldable pub cutoff_of : Float → Float
cutoff_of f0 = min_of (table_size_f ⊗ f0) (decimal 1 0)

-- "The differentiator hands back its next state with each sample."
abbrev pub differentiated : Differentiator → Float → Float → Differentiated
differentiated d coefficient s =
    let lp = one_pole d.lp (s ⊖ d.previous) coefficient in
    record { next = record { lp = lp; previous = s }; sample = lp }

-- An i16 and a byte as floats.
abbrev pub float_of_i16 : ℤ → Float
float_of_i16 n = of_int binary32 n

abbrev pub float_of_u8 : ℕ → Float
float_of_u8 n = of_count n

module _ {A : Type 0} (float : A → Float) (none : A) where
  -- An entry of a table as a float.
  abbrev pub entry_at : List A → ℕ → Float
  entry_at table i = float (get_or table i none)

  -- `interpolate_wave`.
  unfoldable pub interpolate_wave : List A → ℕ → Float → Float
  interpolate_wave table i t =
      let a = entry_at table i in
      let b = entry_at table (i + 1) in
      a ⊕ (b ⊖ a) ⊗ t

  -- "The Hermite reading rounds after every single operation, as `interpolate_wave_hermite` does."
  unfoldable pub interpolate_wave_hermite : List A → ℕ → Float → Float
  interpolate_wave_hermite table i f =
      let xm1 = entry_at table i in
      let x0 = entry_at table (i + 1) in
      let x1 = entry_at table (i + 2) in
      let x2 = entry_at table (i + 3) in
      let c = (x1 ⊖ xm1) ⊗ decimal 5 1 in
      let v = x0 ⊖ x1 in
      let w = c ⊕ v in
      let a = w ⊕ v ⊕ (x2 ⊖ x0) ⊗ decimal 5 1 in
      let b = w ⊕ a in
      ((a ⊗ f ⊖ b) ⊗ f ⊕ c) ⊗ f ⊕ x0

  -- `interpolate_integrated_wave`.
  unfoldable pub interpolate_integrated_wave : List A → ℕ → Float → Float
  interpolate_integrated_wave table i t =
      let a = entry_at table i in
      let b = entry_at table (i + 1) in
      let c = entry_at table (i + 2) in
      (b ⊖ a) ⊕ (c ⊖ b ⊖ b ⊕ a) ⊗ t
