-- The quadrature's loop, by the law of lent runs that a loop fills.
use Rattle.std.specs.Prelude.{◌≡◌}
use Rattle.std.specs.Float.Ieee.{nan}
use Rattle.utils.specs.Frames.{state_after}
use Rattle.sine_oscillator.specs.Path.{quadrature_next, quadrature_out, quadrature_out2}
use Rattle.utils.proofs.Runs.{Filling}
use Rattle.sine_oscillator.proofs.Quadrature.fill.Given as goal

abbrev pub invariant-loop-i : goal.invariant-loop-i
invariant-loop-i l =
    (l.q ≡ state_after quadrature_next l.i l.initial.q)
    × (Filling (λ j. quadrature_out (state_after quadrature_next j l.initial.q)) nan l.initial.out l.out l.i
    × Filling (λ j. quadrature_out2 (state_after quadrature_next j l.initial.q)) nan l.initial.out_2 l.out_2 l.i)
