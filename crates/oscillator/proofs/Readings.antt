-- The shared fact of the readings, over the element: a reading of the part of a table from k on is the reading of the table k places further.
use Rattle.std.proofs.Common.{◌≡◌, sym, ap, ◌∙◌, List, ℕ, ◌+◌, add_assoc, drop, get_or, get_or-drop, Float}
use Rattle.oscillator.specs.Readings.{entry_at, interpolate_wave, interpolate_wave_hermite, interpolate_integrated_wave}

module _ {A : Type 0} (float : A → Float) (none : A) (table : List A) (k i : ℕ) (f : Float) where
  entry_part : (j : ℕ) → entry_at float none (drop k table) (i + j) ≡ entry_at float none table (k + i + j)
  entry_part j = ap float (get_or-drop k table (i + j) none ∙ ap (λ (n : ℕ). get_or table n none) (sym (add_assoc k i j)))

  first_part : entry_at float none (drop k table) i ≡ entry_at float none table (k + i)
  first_part = ap float (get_or-drop k table i none)

  pub wave_part : interpolate_wave float none (drop k table) i f ≡ interpolate_wave float none table (k + i) f
  unfolding interpolate_wave
  wave_part = rw (first_part, entry_part 1)

  pub hermite_part : interpolate_wave_hermite float none (drop k table) i f ≡ interpolate_wave_hermite float none table (k + i) f
  unfolding interpolate_wave_hermite
  hermite_part = rw (first_part, entry_part 1, entry_part 2, entry_part 3)

  pub integrated_part : interpolate_integrated_wave float none (drop k table) i f ≡ interpolate_integrated_wave float none table (k + i) f
  unfolding interpolate_integrated_wave
  integrated_part = rw (first_part, entry_part 1, entry_part 2)
