-- A coordinate of the circle, by its two tests.
use Rattle.std.proofs.Common.{sym, ◌∙◌, true≢false}
use Rattle.std.specs.Float.Ieee.{of_bits}
use Rattle.words.specs.Binary32.{decimal}
use Rattle.sine_oscillator.proofs.on_circle.Goals as goal
use Rattle.sine_oscillator.proofs.on_circle.Goals.{then-norm, else-norm}

pub returns-then-norm-2 : goal.returns-then-norm-2
unfolding of_bits decimal
returns-then-norm-2 c =
    elim c.if-norm.branch [
      | then-norm w ↦ simp (w.if-norm.true, c.fast_rsqrt_carmack.ensures)
      | else-norm w ↦ simp (w.if-norm.false, sym w.value-is ∙ c.if-norm-2.true, c.fast_rsqrt_carmack.ensures)
    ]

pub returns-else-norm-2 : goal.returns-else-norm-2
unfolding of_bits decimal
returns-else-norm-2 c =
    elim c.if-norm.branch [
      | then-norm w ↦ absurd (true≢false (sym w.if-norm.true ∙ sym w.value-is ∙ c.if-norm-2.false))
      | else-norm w ↦ simp (w.if-norm.false, sym w.value-is ∙ c.if-norm-2.false)
    ]
