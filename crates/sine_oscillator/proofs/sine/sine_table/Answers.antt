-- `sine_oscillator::sine::sine_table` meets its contract.
use Rattle.std.proofs.Common.{refl}
use Rattle.std.specs.Float.Ieee.{of_bits, neg}
use Rattle.words.specs.Binary32.{decimal}
use Rattle.sine_oscillator.specs.Sine.{lut_sine}
use Rattle.sine_oscillator.proofs.sine.sine_table.Goals as goal

pub returns : goal.returns
unfolding lut_sine of_bits decimal neg
returns c = refl
