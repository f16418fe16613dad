-- The lines are tested, and their number, and then the rows are stored.
use Rattle.std.proofs.Common.{sym, ap, ◌∙◌, Ok}
use Rattle.reader.specs.Reading.{outcome}
use Rattle.reader.proofs.Testing.{handed_on}
use Rattle.reader.proofs.Settling.{room, settle_refused, settle_count, settle_stored, passes_free}
use Rattle.reader.proofs.read_lines.Goals as goal

pub returns-in_err-lines : goal.returns-in_err-lines
returns-in_err-lines c =
    let t = sym c.test_lines.ensures ∙ c.in_err-lines.was in
    ap (λ r. outcome r c.args.rows.now) (handed_on _ _ c.from_residual.ensures.1) ∙ settle_refused _ _ _ _ _ _ t

pub returns-in_err-test_count : goal.returns-in_err-test_count
returns-in_err-test_count c =
    let t = sym c.test_lines.ensures ∙ c.in_ok-lines.was in
    let n = sym c.test_count.ensures ∙ c.in_err-test_count.was in
    ap (λ r. outcome r c.args.rows.now) (handed_on _ _ c.from_residual-in_err-test_count.ensures.1) ∙ settle_count _ _ _ _ _ _ t _ n

pub write_rows-requires : goal.write_rows-requires
write_rows-requires c =
    let t = sym c.test_lines.ensures ∙ c.in_ok-lines.was in
    let n = sym c.test_count.ensures ∙ c.in_ok-test_count.was in
    record { text_value = passes_free _ _ _ _ _ _ t; lines_in_bounds = room _ _ _ _ n }

pub returns : goal.returns
returns c =
    let t = sym c.test_lines.ensures ∙ c.in_ok-lines.was in
    let n = sym c.test_count.ensures ∙ c.in_ok-test_count.was in
    ap (outcome (Ok _)) c.write_rows.ensures ∙ settle_stored _ _ _ _ _ _ t n
