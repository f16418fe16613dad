-- `utils::interpolate_wrap` meets its contract.
use Rattle.std.specs.Float.Ieee.{of_bits}
use Rattle.words.specs.Binary32.{decimal}
use Rattle.utils.specs.Utils.{interpolate_wrap}
use Rattle.utils.proofs.interpolate_wrap.Goals as goal

pub returns : goal.returns
unfolding interpolate_wrap of_bits decimal
returns c =
    rw (c.held_part-part.ensures, c.clamp-wrapped.ensures, c.whole_i32_float.ensures)
