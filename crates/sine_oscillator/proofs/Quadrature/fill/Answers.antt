-- The quadrature's loop, by the law of lent runs that a loop fills.
use Rattle.std.proofs.Common.{ℕ, List, Float, ◌≤◌, ◌++◌, length, drop, append-nil, drop_of_length-le, rules, arith, refl, ap, ◌∙◌}
use Rattle.std.specs.Float.Ieee.{nan}
use Rattle.std.specs.Prelude.{◌≡◌}
use Rattle.words.specs.Binary32.{◌⊗◌}
use Rattle.utils.specs.Frames.{state_after}
use Rattle.sine_oscillator.specs.declared.Quadrature.{Quadrature}
use Rattle.sine_oscillator.specs.Path.{quadrature_next, quadrature_out, quadrature_out2}
use Rattle.utils.proofs.Frames.{after_more}
use Rattle.utils.proofs.Runs.{filling_none, filling_more, filled_run}
use Rattle.sine_oscillator.proofs.Quadrature.fill.Goals as goal

-- nothing stands past a run's end
whole : (n : ℕ) (l xs ys : List Float) → length l ≤ n → xs ≡ ys ++ drop n l → xs ≡ ys
whole n l xs ys h e = e ∙ ap (λ (z : List Float). ys ++ z) (drop_of_length-le l h) ∙ append-nil ys

pub loop-i-init : goal.loop-i-init
unfolding state_after
loop-i-init c = (refl, (filling_none _ _ _, filling_none _ _ _))

pub loop-i-preserved : goal.loop-i-preserved
loop-i-preserved c =
    let inv = c.loop-i.invariant in
    let step = c.next-q.ensures in (
      after_more quadrature_next _ _ _ _ step inv.0,
      (
        filling_more _ _ _ _ _ _ (search rules) (ap (λ (q : Quadrature). q.x ⊗ q.am.value) step ∙ ap quadrature_out inv.0) inv.1.0,
        filling_more _ _ _ _ _ _ (search rules) (ap (λ (q : Quadrature). q.y ⊗ q.am.value) step ∙ ap quadrature_out2 inv.0) inv.1.1,
      ),
    )

pub returns-clause-out_after : goal.returns-clause-out_after
returns-clause-out_after c =
    let e : c.loop-i.i ≡ length c.args.out.now = omega arith in
    whole (length c.args.out.now) c.args.out.now _ _ (omega arith) (filled_run quadrature_next quadrature_out nan _ _ _ _ (rw e at c.loop-i.invariant.1.0))

pub returns-clause-out_2_after : goal.returns-clause-out_2_after
returns-clause-out_2_after c =
    let e : c.loop-i.i ≡ length c.args.out.now = omega arith in
    whole (length c.args.out.now) c.args.out_2.now _ _ (omega arith) (filled_run quadrature_next quadrature_out2 nan _ _ _ _ (rw e at c.loop-i.invariant.1.1))
