-- Values as a joint check of the definitions: how far the waveform goes, and the first number that is held.
use Rattle.std.proofs.Common.{◌≡◌, refl, true}
use Rattle.std.specs.Float.Ieee.{of_int, round, sub, to_bits, to_unsigned}
use Rattle.std.specs.Float.{binary32}
use Rattle.words.specs.Binary32.{◌⊖◌, decimal, of_count}
use Rattle.words.specs.Parts.{part_of}
use Rattle.wavetable_oscillator.specs.Oscillator.{num_waves, waveform_top}

-- timbre 1 goes to 62.9999, rounded
pub waveform_span : to_bits binary32 (of_count num_waves ⊖ decimal 10001 4) ≡ 0x427bffe6
unfolding to_bits sub of_int round decimal
waveform_span = refl

-- a waveform of 63 is held at 62, its fraction 1
pub waveform_63 : part_of waveform_top (decimal 63 0) ≡ record { whole = 62; fraction = decimal 1 0; held = true }
unfolding part_of to_unsigned sub of_int round decimal
waveform_63 = refl
