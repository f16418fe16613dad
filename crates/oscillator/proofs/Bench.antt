-- Document 01, "Bench values", of the Hermite reading, computed.
use Rattle.std.proofs.Common.{◌≡◌, refl, [], ◌∷◌, pos}
use Rattle.std.specs.Float.Ieee.{add, sub, mul, of_int}
use Rattle.words.specs.Binary32.{decimal}
use Rattle.oscillator.specs.Readings.{interpolate_wave_hermite, float_of_i16}

-- "Hermite of 1, 2, 3, 4 at 0.5 is 2.5"
hermite_of_1_2_3_4 : interpolate_wave_hermite float_of_i16 (pos 0) (pos 1 ∷ pos 2 ∷ pos 3 ∷ pos 4 ∷ []) 0 (decimal 5 1) ≡ decimal 25 1
unfolding interpolate_wave_hermite add sub mul of_int decimal
hermite_of_1_2_3_4 = refl
