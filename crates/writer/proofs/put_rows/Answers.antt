-- `put_rows` puts the lines of the rows one behind the other (Filled).
use Rattle.std.proofs.Common.{sym, ap, ◌∙◌, List, ◌++◌, map, ℕ, ◌+◌, ◌*◌, rules, arith, length, drop, length-drop}
use Rattle.score.specs.Rows.{row_words}
use Rattle.text.specs.Text.{line_of, field_of}
use Rattle.lists.proofs.Filling.{fill_goes_on, fill_ends}
use Rattle.writer.specs.Writing.{row_bytes}
use Rattle.writer.proofs.Lines.{rows_from, rows_more, rows_none, rows_all, row_long}
use Rattle.writer.proofs.put_rows.Goals as goal

pub loop-k-preserved : goal.loop-k-preserved
loop-k-preserved c =
    let a = c.args in
    let k = c.loop-k.k in
    let put = c.put_line in
    let line = put.ensures ∙ ap (λ (row : List ℕ). line_of (map field_of row)) c.row_at.ensures in
    fill_goes_on row_bytes a.count (rows_from a.count a.rows.now) c.loop-k.text k (search rules) put.new.text
    (ap length line ∙ row_long (drop (k * row_words) a.rows.now) (omega (arith, length-drop (k * row_words) a.rows.now)))
    c.loop-k.invariant
    (rows_more a.count a.rows.now k (search rules) ∙ ap (λ (x : List ℕ). x ++ rows_from a.count a.rows.now (k + 1)) (sym line))

pub returns : goal.returns
returns c =
    let a = c.args in
    fill_ends row_bytes a.count (rows_from a.count a.rows.now) _ _ c.loop-k-test.false (rows_none a.count a.rows.now) c.loop-k.invariant
    ∙ rows_all a.count a.rows.now
