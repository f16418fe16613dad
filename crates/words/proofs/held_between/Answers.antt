-- `words::held_between` meets its contract: raised to a half, x is not above the top and a half, or that is taken.
use Rattle.std.proofs.Common.{ap, Float}
use Rattle.std.specs.Float.Ieee.{of_bits, is_nan}
use Rattle.words.specs.Binary32.{◌⊕◌, decimal}
use Rattle.words.specs.Inner.{half}
use Rattle.words.proofs.HeldWhole.{held_law}
use Rattle.words.proofs.held_between.Goals as goal

pub returns : goal.returns
unfolding of_bits decimal is_nan
returns c =
    let h = held_law _ _ _ _ _ c.requires (ap (λ (x : Float). x ⊕ half) c.float_of_u64-bound.ensures) c.max.ensures.value (c.max.ensures.other_bound tt) c.min.ensures.value in
    record { result_value = h.0; small = h.1 }
