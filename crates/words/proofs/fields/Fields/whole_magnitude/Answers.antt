-- `words::fields::Fields::whole_magnitude` meets its contract.
use Rattle.std.proofs.Common.{le-ltb, ◌+◌, ◌-◌, arith, shl_exact}
use Rattle.std.proofs.lemmas.Bool.{lt-leb}
use Rattle.words.specs.Fields.{whole_magnitude}
use Rattle.words.proofs.fields.Fields.whole_magnitude.Goals as goal

pub returns-else-self-le-UNIT_EXPONENT : goal.returns-else-self-le-UNIT_EXPONENT
unfolding whole_magnitude
returns-else-self-le-UNIT_EXPONENT c =
    let a = c.args.self in
    rw (le-ltb _ _ c.if-self-lt-BIAS.false, lt-leb _ _ c.if-self-le-UNIT_EXPONENT.false, c.significand-m.ensures) (shl_exact {a = 8388608 + a.trailing} 24 (a.biased - 150) 64 (omega arith) (omega arith))
