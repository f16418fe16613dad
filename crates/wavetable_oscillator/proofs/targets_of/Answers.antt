-- `wavetable_oscillator::targets_of` meets its contract.
use Rattle.std.specs.Float.Ieee.{of_bits, of_int, round}
use Rattle.words.specs.Binary32.{decimal}
use Rattle.wavetable_oscillator.specs.Oscillator.{targets_of}
use Rattle.wavetable_oscillator.proofs.targets_of.Goals as goal

pub returns : goal.returns
unfolding targets_of of_bits decimal of_int round
returns c = rw (c.clamp-frequency.ensures, c.note_to_frequency-f0.ensures)
