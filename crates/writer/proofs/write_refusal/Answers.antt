-- 6, then 9, then 14.
use Rattle.std.proofs.Common.{sym, ◌∙◌, arith}
use Rattle.reader.proofs.Testing.{tested_on}
use Rattle.writer.proofs.Refusing.{not_counted, right, not_within, no_room, passes}
use Rattle.writer.proofs.write_refusal.Goals as goal

pub returns-then-wrong_rows : goal.returns-then-wrong_rows
returns-then-wrong_rows c =
    let a = c.args in
    not_counted a.count a.rows.now a.text.now (sym c.wrong_rows.ensures ∙ c.if-wrong_rows.true)

pub within_limits-requires : goal.within_limits-requires
within_limits-requires c =
    let a = c.args in
    (right a.count a.rows.now a.text.now (sym c.wrong_rows.ensures ∙ c.if-wrong_rows.false)).rows_room

pub returns-in_err-within_limits : goal.returns-in_err-within_limits
returns-in_err-within_limits c =
    let a = c.args in
    let l = sym c.within_limits.ensures ∙ c.in_err-within_limits.was in
    tested_on _ _ c.from_residual.ensures.1 ∙ not_within a.count a.rows.now a.text.now (sym c.wrong_rows.ensures ∙ c.if-wrong_rows.false) _ l

pub text_bytes-requires : goal.text_bytes-requires
text_bytes-requires c =
    let a = c.args in
    (right a.count a.rows.now a.text.now (sym c.wrong_rows.ensures ∙ c.if-wrong_rows.false)).count_most

pub returns-then-text-text_bytes : goal.returns-then-text-text_bytes
returns-then-text-text_bytes c =
    let a = c.args in
    let l = sym c.within_limits.ensures ∙ c.in_ok-within_limits.was in
    no_room a.count a.rows.now a.text.now (sym c.wrong_rows.ensures ∙ c.if-wrong_rows.false) l (omega (arith, c.if-text-text_bytes.true, c.text_bytes.ensures))

pub returns : goal.returns
returns c =
    let a = c.args in
    let l = sym c.within_limits.ensures ∙ c.in_ok-within_limits.was in
    passes a.count a.rows.now a.text.now (sym c.wrong_rows.ensures ∙ c.if-wrong_rows.false) l (omega (arith, c.if-text-text_bytes.false, c.text_bytes.ensures))
