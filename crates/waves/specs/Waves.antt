-- Document 01, "Wavetable voice": the waves of the bank that a frame reads, as `wavetable_engine.rs` has them.
use Rattle.std.specs.Prelude.{ℕ, ◌+◌, ◌-◌, ◌*◌, ◌%◌, cond, List, [], ◌∷◌, leb, eqb, ℤ, pos, get_or, drop, Float}
use Rattle.std.specs.Float.{nan}
use Rattle.words.specs.Binary32.{◌⊕◌, ◌⊖◌, ◌⊗◌}
use Rattle.oscillator.specs.Bank.{waves, wave_length}
use Rattle.oscillator.specs.Readings.{interpolate_wave_hermite, float_of_i16}

-- "where r is 101 for z = 3, else 1".
abbrev pub spread : ℕ → ℕ
spread z = cond (eqb z 3) 101 1

-- "Wave number: ((x + 8y + 64z) times r) mod 192".
unfoldable pub wave : ℕ → ℕ → ℕ → ℕ
wave x y z = (x + y * 8 + z * 64) * spread z % waves

-- "Levels fold: z from 4 to 7 becomes 7 - z."
unfoldable pub fold_level : ℕ → ℕ
fold_level z = cond (leb 4 z) (7 - z) z

-- `read_wave`: a wave at a phase.
unfoldable pub read_wave : List ℤ → ℕ → ℕ → ℕ → ℕ → Float → Float
read_wave bank x y z phase fraction =
    interpolate_wave_hermite float_of_i16 (pos 0) (drop (wave x y z * wave_length) bank) phase fraction

-- "Each frame takes the eight corner readings, two by two by two": by z, y, x.
module _ (bank : List ℤ) (phase : ℕ) (fraction : Float) where
  abbrev pub row_at : ℕ → ℕ → ℕ → List Float
  row_at x y z = read_wave bank x y z phase fraction ∷ read_wave bank (x + 1) y z phase fraction ∷ []

  abbrev pub level_at : ℕ → ℕ → ℕ → List (List Float)
  level_at x y z = row_at x y z ∷ row_at x (y + 1) z ∷ []

  unfoldable pub corners_at : ℕ → ℕ → ℕ → List (List (List Float))
  corners_at x y z = level_at x y (fold_level z) ∷ level_at x y (fold_level (z + 1)) ∷ []

-- Between two readings.
abbrev pub mix : Float → Float → Float → Float
mix a b t = a ⊕ (b ⊖ a) ⊗ t

-- The corners, folded down axis by axis.
abbrev pub fold_z : List Float → Float → Float
fold_z c t = mix (get_or c 0 nan) (get_or c 1 nan) t

abbrev pub fold_y : List (List Float) → Float → List Float
fold_y c t = fold_z (get_or c 0 []) t ∷ fold_z (get_or c 1 []) t ∷ []

abbrev pub fold_x : List (List (List Float)) → Float → List (List Float)
fold_x c t = fold_y (get_or c 0 []) t ∷ fold_y (get_or c 1 []) t ∷ []
