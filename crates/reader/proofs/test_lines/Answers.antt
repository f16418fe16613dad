-- The lines that are left decide.
use Rattle.std.proofs.Common.{sym, ◌∙◌, arith, eqb-true, length-drop, ◌*◌}
use Rattle.std.proofs.lemmas.Bool.{eqb-false}
use Rattle.std.proofs.lemmas.List.{take_rest}
use Rattle.values.proofs.Values.{line_fits}
use Rattle.reader.proofs.Testing.{none_left, handed_on, line_refused, line_passes}
use Rattle.reader.proofs.test_lines.Goals as goal

pub returns-in_err-test_line : goal.returns-in_err-test_line
returns-in_err-test_line c =
    let l = c.loop-rest in
    let some = eqb-false _ _ (sym c.is_empty.ensures ∙ c.loop-rest-test.true) in
    let e = sym c.test_line.ensures ∙ c.in_err-test_line.was in
    handed_on _ _ c.from_residual.ensures.1 ∙ sym (l.invariant.left ∙ line_refused _ _ _ _ _ (omega arith) _ e)

pub overflow_mul-rest : goal.overflow_mul-rest
overflow_mul-rest c = omega (arith, line_fits _ _ _ _ _ c.args.layout.some_names (sym c.test_line.ensures ∙ c.in_ok-test_line.was))

pub slice_bounds-rest-count : goal.slice_bounds-rest-count
slice_bounds-rest-count c = line_fits _ _ _ _ _ c.args.layout.some_names (sym c.test_line.ensures ∙ c.in_ok-test_line.was)

pub slice_bounds-rest-start : goal.slice_bounds-rest-start
slice_bounds-rest-start c = omega (arith, line_fits _ _ _ _ _ c.args.layout.some_names (sym c.test_line.ensures ∙ c.in_ok-test_line.was))

pub loop-rest-preserved : goal.loop-rest-preserved
loop-rest-preserved c =
    let l = c.loop-rest in
    let names = c.args.layout.some_names in
    let some = eqb-false _ _ (sym c.is_empty.ensures ∙ c.loop-rest-test.true) in
    let z = sym c.test_line.ensures ∙ c.in_ok-test_line.was in
    rw (take_rest l.rest.now (c.args.layout.names * 9))
    (record {
      counted = omega (arith, l.invariant.counted, names, line_fits _ _ _ _ _ names z, length-drop (c.args.layout.names * 9) l.rest.now);
      left = l.invariant.left ∙ line_passes _ _ _ _ _ (omega arith) names z;
    })

pub returns : goal.returns
returns c = sym (c.loop-rest.invariant.left ∙ none_left _ _ _ _ _ (eqb-true _ _ (sym c.is_empty.ensures ∙ c.loop-rest-test.false)))
