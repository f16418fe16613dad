-- The measures of the bank agree with each other, and the period as a float is the literal that the code has.
use Rattle.std.proofs.Common.{◌+◌, ◌*◌, ◌≡◌, refl}
use Rattle.std.specs.Float.Ieee.{of_int, round}
use Rattle.words.specs.Binary32.{decimal}
use Rattle.oscillator.specs.Bank.{bank_length, waves, wave_length, table_size, table_size_f}

pub bank_of_waves : bank_length ≡ waves * wave_length
bank_of_waves = refl

pub wave_of_period : wave_length ≡ table_size + 4
wave_of_period = refl

pub period_float : table_size_f ≡ decimal 128 0
unfolding of_int round decimal
period_float = refl
