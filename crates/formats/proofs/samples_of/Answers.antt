-- `formats::samples_of`: each sample so far is that of its two bytes.
use Rattle.std.proofs.Common.{rules, arith}
use Rattle.formats.proofs.Bytes.{sample_more, samples_are}
use Rattle.formats.proofs.samples_of.Goals as goal

pub loop-i-preserved : goal.loop-i-preserved
loop-i-preserved c =
    let l = c.loop-i in
    (search rules, sample_more _ _ _ _ (record { sfits = c.from_le_bytes.type_inv }) c.from_le_bytes.ensures (omega (arith, l.invariant.0)) l.invariant.1)

pub returns : goal.returns
returns c =
    let l = c.loop-i in
    samples_are _ _ (omega (arith, l.invariant.0)) (λ i h. l.invariant.1 i (omega (arith, l.invariant.0)))
