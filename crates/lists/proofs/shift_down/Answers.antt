-- `shift_down` moves the words of the parts.
use Rattle.std.proofs.Common.{◌+◌, ◌≤◌, mul-le-mul_right, arith}
use Rattle.lists.proofs.Moving.{shifted_down}
use Rattle.lists.proofs.Places.{part_end}
use Rattle.lists.proofs.shift_down.Goals as goal

pub overflow_mul-from : goal.overflow_mul-from
overflow_mul-from c =
    omega (arith, mul-le-mul_right c.args.width c.requires.0, c.requires.1)

pub move_down-requires : goal.move_down-requires
move_down-requires c =
    let pre = c.requires in
    let h : c.args.p + 1 ≤ c.args.n = omega (arith, pre.0) in
    (omega (arith, part_end c.args.p (c.args.p + 1) c.args.width (omega arith)), (mul-le-mul_right c.args.width h, pre.1))

pub returns : goal.returns
returns c =
    shifted_down _ _ _ _ _ c.requires.0 c.move_down.ensures
