-- `utils::units::pitch_ratios` meets its contract.
use Rattle.std.proofs.Common.{refl}
use Rattle.std.specs.Float.Ieee.{of_bits}
use Rattle.words.specs.Binary32.{decimal}
use Rattle.utils.specs.Units.{lut_pitch_ratio_high, lut_pitch_ratio_low}
use Rattle.utils.proofs.units.pitch_ratios.Goals as goal

pub returns-clause-high : goal.returns-clause-high
unfolding lut_pitch_ratio_high of_bits decimal
returns-clause-high c = refl

pub returns-clause-low : goal.returns-clause-low
unfolding lut_pitch_ratio_low of_bits decimal
returns-clause-low c = refl
