-- `sine_oscillator::sine::near_sine` meets its contract.
use Rattle.std.proofs.Common.{rules}
use Rattle.std.specs.Float.Ieee.{of_bits}
use Rattle.words.specs.Binary32.{decimal}
use Rattle.utils.specs.Utils.{interpolate_wrap}
use Rattle.sine_oscillator.proofs.NearSine.{near}
use Rattle.sine_oscillator.proofs.sine.near_sine.Goals as goal

pub returns : goal.returns
unfolding interpolate_wrap of_bits decimal
returns c =
    let n = near c.args.phase (search rules) c.requires.above_zero c.requires.below_8192 in
    rw (c.held_part-part.ensures, c.told-table, n.0, n.1)
