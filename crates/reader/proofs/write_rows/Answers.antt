-- The rows stored and those of the lines that are left are all.
use Rattle.std.proofs.Common.{◌∙◌, arith, ◌*◌}
use Rattle.std.proofs.lemmas.List.{take_rest}
use Rattle.reader.proofs.Storing.{stores, words_there, next_fits, part_fits, part_long, stores_on, all_stored}
use Rattle.reader.proofs.write_rows.Goals as goal

pub loop-k-init : goal.loop-k-init
loop-k-init c = stores _ _ _ _ _ _ c.requires.text_value

pub overflow_mul-base : goal.overflow_mul-base
overflow_mul-base c = omega (arith, part_fits _ _ _ _ _ _ c.requires.lines_in_bounds c.args.layout.some_names _ _ _ c.loop-k.invariant c.loop-k-test.true)

pub write_row-requires : goal.write_row-requires
write_row-requires c =
    let some = c.args.layout.some_names in
    record {
      on_line = record { names = _; some = some; words = words_there _ _ _ _ _ _ c.requires.lines_in_bounds some _ _ _ c.loop-k.invariant c.loop-k-test.true; readable = c.args.layout.found };
      row_len = part_long _ _ _ _ _ _ c.requires.lines_in_bounds some _ _ _ c.loop-k.invariant c.loop-k-test.true;
    }

pub overflow_mul-rest : goal.overflow_mul-rest
overflow_mul-rest c = omega (arith, c.loop-k.invariant.inside, next_fits _ _ _ _ _ _ c.requires.lines_in_bounds c.args.layout.some_names _ _ _ c.loop-k.invariant c.loop-k-test.true)

pub slice_bounds-rest-count : goal.slice_bounds-rest-count
slice_bounds-rest-count c = next_fits _ _ _ _ _ _ c.requires.lines_in_bounds c.args.layout.some_names _ _ _ c.loop-k.invariant c.loop-k-test.true

pub slice_bounds-rest-start : goal.slice_bounds-rest-start
slice_bounds-rest-start c = omega (arith, next_fits _ _ _ _ _ _ c.requires.lines_in_bounds c.args.layout.some_names _ _ _ c.loop-k.invariant c.loop-k-test.true)

pub loop-k-preserved : goal.loop-k-preserved
loop-k-preserved c =
    let l = c.loop-k in
    let w = c.write_row in
    let some = c.args.layout.some_names in
    let enough = c.requires.lines_in_bounds in
    let long = part_long _ _ _ _ _ _ enough some _ _ _ l.invariant c.loop-k-test.true in
    rw (take_rest l.rest.now (c.args.layout.names * 9)) (stores_on _ _ _ _ _ _ enough some _ _ _ l.invariant c.loop-k-test.true _ w.ensures (w.auto.row ∙ long))

pub returns : goal.returns
returns c = all_stored _ _ _ _ _ _ _ _ _ c.loop-k.invariant c.loop-k-test.false
