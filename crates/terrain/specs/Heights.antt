-- Document 01, "Path and terrain voice": the height of a terrain at a point, as `terrain` of `wave_terrain_engine.rs` has it; and document 02, N6, its edges.
use Rattle.std.specs.Prelude.{ℕ, ◌+◌, ◌-◌, ◌*◌, min, cond, List, eqb, leb, ltb, ℤ, pos, Float}
use Rattle.words.specs.Binary32.{◌⊕◌, ◌⊖◌, ◌⊗◌, ◌⊘◌, decimal, of_count}
use Rattle.words.specs.Parts.{whole_part, whole_float}
use Rattle.utils.specs.Utils.{abs_of}
use Rattle.utils.specs.Holds.{none, of_map, of_bank}
use Rattle.utils.specs.declared.holds.Holds.{Holds}
use Rattle.oscillator.specs.Bank.{wave_length, table_size_f}
use Rattle.oscillator.specs.Readings.{
  float_of_i16,
  float_of_u8,
  interpolate_wave,
  interpolate_integrated_wave,
}
use Rattle.sine_oscillator.specs.Sine.{sine_of}

-- `squash` of this engine.
abbrev pub squash_of : Float → Float → Float
squash_of x a = x ⊗ a ⊘ (decimal 1 0 ⊕ abs_of (x ⊗ a))

-- ---- Layers 0 to 4, by formula. `sine` is LUT_SINE; k keeps each phase positive.

abbrev k : Float
k = decimal 4 0

module _ (sine : List Float) (x y : Float) where
  unfoldable pub terrain0 : Float
  terrain0 =
      (squash_of (sine_of sine (k ⊕ x ⊗ decimal 1273 3)) (decimal 2 0) ⊖ sine_of sine (k ⊕ y ⊗ (x ⊕ decimal 1571 3) ⊗ decimal 637 3)) ⊗ decimal 57 2

  unfoldable pub terrain1 : Float
  terrain1 =
      let xy = x ⊗ y in
      sine_of sine (k ⊕ sine_of sine (k ⊕ (x ⊕ y) ⊗ decimal 637 3) ⊘ (decimal 2 1 ⊕ xy ⊗ xy) ⊗ decimal 159 3)

  unfoldable pub terrain2 : Float
  terrain2 =
      let xy = x ⊗ y in
      sine_of sine (k ⊕ sine_of sine (k ⊕ decimal 2387 3 ⊗ xy) ⊘ (decimal 350 3 ⊕ xy ⊗ xy) ⊗ decimal 159 3)

  unfoldable pub terrain3 : Float
  terrain3 =
      let xy = x ⊗ y in
      let xys = (x ⊖ decimal 25 2) ⊗ (y ⊕ decimal 25 2) in
      sine_of sine (k ⊕ xy ⊘ (decimal 2 0 ⊕ abs_of (decimal 5 0 ⊗ xys)) ⊗ decimal 6366 3)

  unfoldable pub terrain4 : Float
  terrain4 =
      sine_of sine
      (decimal 159 3 ⊘ (decimal 170 3 ⊕ abs_of (y ⊖ decimal 25 2)) ⊕ decimal 477 3 ⊘ (decimal 350 3 ⊕ abs_of ((x ⊕ decimal 5 1) ⊗ (y ⊕ decimal 15 1))) ⊕ k)

-- ---- Readings of the lent map and bank.

-- What a reading gives: "Each reading should say what it held".
pub record Reading : Type 0 where
  pub value : Float
  pub holds : Holds

-- Where a reading starts, and what was held there.
pub record Start : Type 0 where
  pub flat : ℕ
  pub holds : Holds

-- A table that is read at the whole parts of x and y: flat there, the last flat from which the Rust completes a reading, how far each axis
-- reaches where it doesn't, and how a hold counts.
pub record Table : Type 0 where
  pub flat : ℕ → ℕ → ℕ
  pub edge : ℕ
  pub x_reach : ℕ
  pub y_reach : ℕ
  pub hold : Holds

-- "the two whole parts are held apart" (document 02, N6), "and that reading adds 1 to `held`".
abbrev pub held_apart : Table → ℕ → ℕ → Start
held_apart t x y = record { flat = t.flat (min x t.x_reach) (min y t.y_reach); holds = t.hold }

-- "Readings that the Rust completes are untouched".
abbrev pub untouched : Table → ℕ → ℕ → Start
untouched t x y = record { flat = t.flat x y; holds = none }

-- Where a reading of a table starts, map or bank: held "where the Rust would read past the end".
unfoldable pub start_in : Table → ℕ → ℕ → Start
start_in t x y = cond (ltb t.edge (t.flat x y)) (held_apart t x y) (untouched t x y)

-- A map has "4,096 bytes, 64 rows of 64".
abbrev pub map_length : ℕ
map_length = 4096

abbrev pub terrain_size : ℕ
terrain_size = 64

-- Past 4,030 the Rust would read past the map's end. "On the map both stop at 62."
abbrev pub map_edge : ℕ
map_edge = 4030

abbrev pub map_reach : ℕ
map_reach = 62

-- "Map reading: flat = 64 times y's whole part plus x's".
abbrev pub map_table : Table
map_table = record { flat = λ (x y : ℕ). terrain_size * y + x; edge = map_edge; x_reach = map_reach; y_reach = map_reach; hold = of_map }

-- `terrain_lookup`: "it reads flat, +1, +64, +65", "fractions untouched".
unfoldable pub terrain_lookup : List ℕ → Float → Float → Reading
terrain_lookup map x y =
    let coord_scale = of_count (terrain_size - 2) ⊗ decimal 5 1 in
    let mx = (x ⊕ decimal 1 0) ⊗ coord_scale in
    let my = (y ⊕ decimal 1 0) ⊗ coord_scale in
    let place = start_in map_table (whole_part mx) (whole_part my) in
    let near = interpolate_wave float_of_u8 0 map place.flat (mx ⊖ whole_float mx) in
    let far = interpolate_wave float_of_u8 0 map (place.flat + terrain_size) (mx ⊖ whole_float mx) in
    record {
      value = (near ⊕ (far ⊖ near) ⊗ (my ⊖ whole_float my)) ⊗ (decimal 1 0 ⊘ decimal 128 0);
      holds = place.holds;
    }

-- The bank, read as three terrains of 64 waves.
abbrev pub num_waves : ℕ
num_waves = 64

-- Past 25,209 the Rust would read past the bank's end. "On the bank x stops at 62 and y at 128": the wave and the sample.
abbrev pub bank_edge : ℕ
bank_edge = 25209

abbrev pub wave_reach : ℕ
wave_reach = 62

abbrev pub sample_reach : ℕ
sample_reach = 128

-- "Bank reading: flat = 8448 times (7 - layer) + 132 times x's whole part + y's"; held "in the bank chosen".
abbrev pub bank_table : ℕ → Table
bank_table number =
    record {
      flat = λ (x y : ℕ). num_waves * wave_length * number + wave_length * x + y;
      edge = bank_edge;
      x_reach = wave_reach;
      y_reach = sample_reach;
      hold = of_bank;
    }

-- `terrain_lookup_wt`: "it reads flat to +2 and +132 to +134"; "x picks the wave and y the sample".
unfoldable pub terrain_lookup_wt : List ℤ → Float → Float → ℕ → Reading
terrain_lookup_wt bank x y number =
    let sample = (y ⊕ decimal 1 0) ⊗ decimal 5 1 ⊗ table_size_f in
    let wt = (x ⊕ decimal 1 0) ⊗ decimal 5 1 ⊗ of_count (num_waves - 1) in
    let place = start_in (bank_table number) (whole_part wt) (whole_part sample) in
    let near = interpolate_integrated_wave float_of_i16 (pos 0) bank place.flat (sample ⊖ whole_float sample) in
    let far = interpolate_integrated_wave float_of_i16 (pos 0) bank (place.flat + wave_length) (sample ⊖ whole_float sample) in
    record {
      value = (near ⊕ (far ⊖ near) ⊗ (wt ⊖ whole_float wt)) ⊗ (decimal 1 0 ⊘ decimal 1024 0);
      holds = place.holds;
    }

-- A layer that is no reading holds nothing.
abbrev pub unheld : Float → Reading
unheld z = record { value = z; holds = none }

-- "Layers 5 to 7 read the lent bank", "and 8 with a map".
abbrev pub last_bank_layer : ℕ
last_bank_layer = 7

abbrev pub map_layer : ℕ
map_layer = 8

-- `terrain`, layer by layer.
unfoldable pub terrain_of : List Float → List ℤ → List ℕ → Float → Float → ℕ → Reading
terrain_of sine bank map x y index =
    cond (eqb index 0) (unheld (terrain0 sine x y))
    (cond (eqb index 1) (unheld (terrain1 sine x y))
    (cond (eqb index 2) (unheld (terrain2 sine x y))
    (cond (eqb index 3) (unheld (terrain3 sine x y))
    (cond (eqb index 4) (unheld (terrain4 sine x y))
    (cond (leb index last_bank_layer) (terrain_lookup_wt bank x y (last_bank_layer - index))
    (cond (eqb index map_layer) (terrain_lookup map x y) (unheld (decimal 0 0))))))))
