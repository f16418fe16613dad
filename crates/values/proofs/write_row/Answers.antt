-- The words so far.
use Rattle.std.proofs.Common.{refl, arith}
use Rattle.names.proofs.Mapped.{mapped_more, mapped_all}
use Rattle.values.specs.Lines.{row_of}
use Rattle.values.proofs.Values.{on_line_at}
use Rattle.values.proofs.write_row.Goals as goal

pub loop-k-init : goal.loop-k-init
loop-k-init c = record { long = c.requires.row_len; made = refl }

pub word_from-requires : goal.word_from-requires
word_from-requires c = on_line_at _ _ c.loop-k.k _ c.requires.on_line (omega arith)

pub loop-k-preserved : goal.loop-k-preserved
loop-k-preserved c = mapped_more _ _ _ _ c.loop-k.invariant _ _ (omega arith) c.word_from.ensures

pub returns : goal.returns
unfolding row_of
returns c = mapped_all _ _ _ _ c.loop-k.invariant (omega arith)
