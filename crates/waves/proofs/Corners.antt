-- The corner readings from their places in the bank: a wave that is read from its start is the bank read from that place on, and every place leaves room for the phase.
use Rattle.std.proofs.Common.{◌≡◌, sym, List, [], ◌∷◌, ℕ, ◌+◌, ◌/◌, ◌%◌, arith, ℤ, pos, drop, Float}
use Rattle.oscillator.specs.Readings.{float_of_i16}
use Rattle.waves.specs.declared.Places.{Places}
use Rattle.waves.specs.Waves.{read_wave, level_at, corners_at}
use Rattle.waves.specs.Stages.{places_of_level, read_at, read_level, LevelFits}
use Rattle.oscillator.proofs.Readings.{hermite_part}
use Rattle.waves.proofs.Waves.{wave_below}

from_place : (bank : List ℤ) (k p : ℕ) (f : Float) → read_at bank (k + p) f ≡ read_at (drop k bank) p f
from_place bank k p f = sym (hermite_part float_of_i16 (pos 0) bank k p f)

level_read : (bank : List ℤ) (x y z p : ℕ) (f : Float) → read_level bank (places_of_level x y z) p f ≡ level_at bank p f x y z
unfolding places_of_level read_wave
level_read bank x y z p f = simp from_place

pub corners_read : (bank : List ℤ) (s : Places) (p : ℕ) (f : Float)
    → read_level bank s.z0 p f ∷ read_level bank s.z1 p f ∷ [] ≡ corners_at bank p f (s.key % 8) (s.key / 8 % 8) (s.key / 64)
unfolding corners_at
corners_read bank s p f = rw (s.z0_value, s.z1_value) (simp level_read)

pub level_fits : (x y z : ℕ) → LevelFits (places_of_level x y z)
unfolding places_of_level
level_fits x y z =
    record {
      x0y0_fits = omega (arith, wave_below x y z);
      x1y0_fits = omega (arith, wave_below (x + 1) y z);
      x0y1_fits = omega (arith, wave_below x (y + 1) z);
      x1y1_fits = omega (arith, wave_below (x + 1) (y + 1) z);
    }
