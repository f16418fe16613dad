-- `put_line` puts the words of a row one behind the other (Filled).
use Rattle.std.proofs.Common.{◌≡◌, sym, ap, ◌∙◌, List, ◌++◌, ℕ, ◌+◌, rules, arith, length, get_or}
use Rattle.score.specs.Rows.{row_words}
use Rattle.values.specs.Inner.{field_bytes}
use Rattle.lists.proofs.Filling.{fill_goes_on, fill_ends}
use Rattle.writer.proofs.Lines.{then_long, line_from, line_more, line_last, line_none, whole_line}
use Rattle.writer.proofs.put_line.Goals as goal
use Rattle.writer.proofs.put_line.Goals.{then-k-lt-ROW_WORDS, else-k-lt-ROW_WORDS}

pub loop-k-preserved : goal.loop-k-preserved
loop-k-preserved c =
    let row = c.args.row in
    let k = c.loop-k.k in
    let put = c.put_field in
    let long : length row ≡ row_words = search rules in
    let more : line_from row k ≡ put.new.text ++ line_from row (k + 1) = elim c.if-k-lt-ROW_WORDS.branch [
      | then-k-lt-ROW_WORDS w ↦ line_more row k (omega (arith, long, w.if-k-lt-ROW_WORDS.true)) ∙ ap (λ (x : List ℕ). x ++ line_from row (k + 1)) (sym (rw w.after-is at put.ensures))
      | else-k-lt-ROW_WORDS w ↦ line_last row k (omega (arith, long, w.if-k-lt-ROW_WORDS.false)) ∙ ap (λ (x : List ℕ). x ++ line_from row (k + 1)) (sym (rw w.after-is at put.ensures))
    ] in
    fill_goes_on field_bytes row_words (line_from row) c.loop-k.text k c.loop-k-test.true put.new.text (ap length put.ensures ∙ then_long (get_or row k 0) _) c.loop-k.invariant more

pub returns : goal.returns
returns c =
    let row = c.args.row in
    let long : length row ≡ row_words = search rules in
    fill_ends field_bytes row_words (line_from row) _ _ c.loop-k-test.false (rw long at (line_none row)) c.loop-k.invariant ∙ whole_line row (omega (arith, long))
