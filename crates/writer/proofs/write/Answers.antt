-- What is refused changes nothing; else the line of names is put, and then those of the rows.
use Rattle.std.proofs.Common.{rules, sym, ap, ◌∙◌}
use Rattle.reader.proofs.Testing.{handed_on}
use Rattle.writer.specs.Writing.{outcome}
use Rattle.writer.proofs.Refusing.{writable, write_refused, both_put}
use Rattle.writer.proofs.write.Goals as goal

pub returns-in_err-write_refusal : goal.returns-in_err-write_refusal
returns-in_err-write_refusal c =
    let a = c.args in
    let r = sym c.write_refusal.ensures ∙ c.in_err-write_refusal.was in
    ap (λ r. outcome r a.text.now) (handed_on _ _ c.from_residual.ensures.1) ∙ write_refused a.count a.rows.now a.text.now _ r

pub text_bytes-bytes-requires : goal.text_bytes-bytes-requires
text_bytes-bytes-requires c =
    let a = c.args in
    (writable a.count a.rows.now a.text.now (sym c.write_refusal.ensures ∙ c.in_ok-write_refusal.was)).counted.count_most

pub slice_bounds-put_names-end : goal.slice_bounds-put_names-end
slice_bounds-put_names-end c =
    let a = c.args in
    let room = (writable a.count a.rows.now a.text.now (sym c.write_refusal.ensures ∙ c.in_ok-write_refusal.was)).room in
    search rules

pub slice_bounds-put_rows-end : goal.slice_bounds-put_rows-end
slice_bounds-put_rows-end c =
    let a = c.args in
    let room = (writable a.count a.rows.now a.text.now (sym c.write_refusal.ensures ∙ c.in_ok-write_refusal.was)).room in
    search rules

pub put_rows-requires : goal.put_rows-requires
put_rows-requires c =
    let a = c.args in
    let w = writable a.count a.rows.now a.text.now (sym c.write_refusal.ensures ∙ c.in_ok-write_refusal.was) in
    let room = w.room in
    (w.counted.rows_room, search rules)

pub returns : goal.returns
returns c =
    let a = c.args in
    both_put a.count a.rows.now a.text.now c.put_names.new.text c.put_rows.new.text c.text_bytes-bytes.result
    (sym c.write_refusal.ensures ∙ c.in_ok-write_refusal.was)
    c.put_names.ensures
    c.put_rows.ensures
    c.text_bytes-bytes.ensures
