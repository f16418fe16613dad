-- How the code reads: all frames' corners into a lent list, then all folds. A frame's whole parts come in one number, its key: x + 8 y + 64 z + 512 times the phase.
use Rattle.std.specs.Prelude.{ℕ, ◌+◌, ◌*◌, ◌/◌, ◌%◌, ◌≤◌, ◌<◌, ◌≡◌, List, [], ◌∷◌, ℤ, pos, get_or, set, Float}
use Rattle.std.specs.Float.{nan}
use Rattle.oscillator.specs.Bank.{bank_length, wave_length}
use Rattle.oscillator.specs.Readings.{interpolate_wave_hermite, float_of_i16}
use Rattle.waves.specs.declared.Level.{Level}
use Rattle.waves.specs.Waves.{wave, corners_at, fold_x, fold_y, fold_z}

-- A key of parts within their tops.
pub record KeyFits (key : ℕ) : Type 0 where
  pub level : key % 512 < 448
  pub phase : key < 65536

pub record KeysFit (keys : List ℕ) (size : ℕ) : Type 0 where
  pub each_fits : (j : ℕ) → j < size → KeyFits (get_or keys j 0)

-- Where the waves of a level start in the bank.
unfoldable pub places_of_level : ℕ → ℕ → ℕ → Level
places_of_level x y z =
    record {
      x0y0 = wave x y z * wave_length;
      x1y0 = wave (x + 1) y z * wave_length;
      x0y1 = wave x (y + 1) z * wave_length;
      x1y1 = wave (x + 1) (y + 1) z * wave_length;
    }

-- A reading at a place of the bank.
abbrev pub read_at : List ℤ → ℕ → Float → Float
read_at bank at f = interpolate_wave_hermite float_of_i16 (pos 0) bank at f

-- The four readings of a level.
abbrev pub read_level : List ℤ → Level → ℕ → Float → List (List Float)
read_level bank l p f =
    (read_at bank (l.x0y0 + p) f ∷ read_at bank (l.x1y0 + p) f ∷ [])
    ∷ (read_at bank (l.x0y1 + p) f ∷ read_at bank (l.x1y1 + p) f ∷ [])
    ∷ []

-- A level all of whose waves lie in the bank.
pub record LevelFits (l : Level) : Type 0 where
  pub x0y0_fits : l.x0y0 + wave_length ≤ bank_length
  pub x1y0_fits : l.x1y0 + wave_length ≤ bank_length
  pub x0y1_fits : l.x0y1 + wave_length ≤ bank_length
  pub x1y1_fits : l.x1y1 + wave_length ≤ bank_length

-- The corners of a frame by its key.
abbrev pub corners_of : List ℤ → ℕ → Float → List (List (List Float))
corners_of bank key f = corners_at bank (key / 512) f (key % 512 % 8) (key % 512 / 8 % 8) (key % 512 / 64)

-- Eight entries of a list, by z, y, x.
unfoldable pub loaded : List Float → ℕ → List (List (List Float))
loaded l at =
    ((get_or l at nan ∷ get_or l (at + 1) nan ∷ []) ∷ (get_or l (at + 2) nan ∷ get_or l (at + 3) nan ∷ []) ∷ [])
    ∷ ((get_or l (at + 4) nan ∷ get_or l (at + 5) nan ∷ []) ∷ (get_or l (at + 6) nan ∷ get_or l (at + 7) nan ∷ []) ∷ [])
    ∷ []

-- The corners of `size` frames, each frame's eight after those of the frame before it.
pub record CornersRead (bank : List ℤ) (keys : List ℕ) (phases corners : List Float) (size : ℕ) : Type 0 where
  pub each_read : (j : ℕ) → j < size → loaded corners (j * 8) ≡ corners_of bank (get_or keys j 0) (get_or phases j nan)

-- The corner by z, y, x.
abbrev pub corner : List (List (List Float)) → ℕ → ℕ → ℕ → Float
corner c z y x = get_or (get_or (get_or c z []) y []) x nan

-- Eight entries of a list, stored.
unfoldable pub stored : List Float → ℕ → List (List (List Float)) → List Float
stored l at c =
    set
    (set
    (set
    (set
    (set
    (set
    (set
    (set l at (corner c 0 0 0))
    (at + 1) (corner c 0 0 1))
    (at + 2) (corner c 0 1 0))
    (at + 3) (corner c 0 1 1))
    (at + 4) (corner c 1 0 0))
    (at + 5) (corner c 1 0 1))
    (at + 6) (corner c 1 1 0))
    (at + 7) (corner c 1 1 1)

-- ---- the folds

abbrev pub mix_at : List Float → List Float → List Float → List Float → ℕ → Float
mix_at xs ys zs corners j =
    fold_z (fold_y (fold_x (loaded corners (j * 8)) (get_or xs j nan)) (get_or ys j nan)) (get_or zs j nan)
