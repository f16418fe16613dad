-- `shift_up` moves the words of the parts.
use Rattle.std.proofs.Common.{◌+◌, mul-le-mul_right, arith}
use Rattle.lists.proofs.Moving.{shifted_up}
use Rattle.lists.proofs.Places.{part_end}
use Rattle.lists.proofs.shift_up.Goals as goal

pub overflow_mul-from : goal.overflow_mul-from
overflow_mul-from c =
    omega (arith, mul-le-mul_right c.args.width c.requires.0, c.requires.1)

pub move_up-requires : goal.move_up-requires
move_up-requires c =
    let pre = c.requires in
    (mul-le-mul_right _ pre.0, omega (arith, part_end c.args.n (c.args.n + 1) c.args.width (omega arith), pre.1))

pub returns : goal.returns
returns c =
    shifted_up _ _ _ _ _ c.requires.0 c.move_up.ensures
