-- `inputs::read` meets its contract: one case for each way the tests and the readers can turn out.
use Rattle.std.proofs.Common.{rules, arith, sym, ap, ◌*◌}
use Rattle.score.specs.Rows.{row_words}
use Rattle.reader.specs.Reading.{Outcome, edit_words, read_of, read_edits_of}
use Rattle.inputs.specs.Inputs.{most_rows, most_edits}
use Rattle.inputs.proofs.Texts.{too_long, as_read, score_refused, edits_refused, bank_refused, all_taken, read_fits, read_edits_fits, zeros_long, zero_words}
use Rattle.inputs.proofs.read.Goals as goal

pub returns-in_err-test_length-clause-value : goal.returns-in_err-test_length-clause-value
returns-in_err-test_length-clause-value c =
    let a = c.args in
    let e = score_refused a.score.now a.edits.now a.bank (too_long read_of _ _ (sym c.in_err-test_length.ensures)) in
    search (rules, e)

pub returns-in_err-count-clause-value : goal.returns-in_err-count-clause-value
returns-in_err-count-clause-value c =
    let a = c.args in
    let s = as_read read_of _ _ (sym c.in_ok-test_length.ensures) c.in_err-count.ensures in
    let e = score_refused a.score.now a.edits.now a.bank (ap (λ (o : Outcome). o.answer) (rw (zero_words (most_rows * row_words)) at s)) in
    search (rules, e)

pub returns-in_err-test_length-2-clause-value : goal.returns-in_err-test_length-2-clause-value
returns-in_err-test_length-2-clause-value c =
    let a = c.args in
    let s = as_read read_of _ _ (sym c.in_ok-test_length.ensures) c.in_ok-count.ensures in
    let t = too_long read_edits_of _ _ (sym c.in_err-test_length-2.ensures) in
    let e = edits_refused a.score.now a.edits.now a.bank (ap (λ (o : Outcome). o.answer) (rw (zero_words (most_rows * row_words)) at s)) t in
    search (rules, e)

pub returns-in_err-edit_count-clause-value : goal.returns-in_err-edit_count-clause-value
returns-in_err-edit_count-clause-value c =
    let a = c.args in
    let s = as_read read_of _ _ (sym c.in_ok-test_length.ensures) c.in_ok-count.ensures in
    let t = as_read read_edits_of _ _ (sym c.in_ok-test_length-2.ensures) c.in_err-edit_count.ensures in
    let e = edits_refused a.score.now a.edits.now a.bank (ap (λ (o : Outcome). o.answer) (rw (zero_words (most_rows * row_words)) at s)) (ap (λ (o : Outcome). o.answer) (rw (zero_words (most_edits * edit_words)) at t)) in
    search (rules, e)

pub returns-in_err-test_bank-clause-value : goal.returns-in_err-test_bank-clause-value
returns-in_err-test_bank-clause-value c =
    let a = c.args in
    let s = as_read read_of _ _ (sym c.in_ok-test_length.ensures) c.in_ok-count.ensures in
    let t = as_read read_edits_of _ _ (sym c.in_ok-test_length-2.ensures) c.in_ok-edit_count.ensures in
    let e = bank_refused a.score.now a.edits.now a.bank (ap (λ (o : Outcome). o.answer) (rw (zero_words (most_rows * row_words)) at s)) (ap (λ (o : Outcome). o.answer) (rw (zero_words (most_edits * edit_words)) at t)) (sym c.in_err-test_bank.ensures) in
    search (rules, e)

pub returns-clause-value : goal.returns-clause-value
returns-clause-value c =
    let a = c.args in
    let s = as_read read_of _ _ (sym c.in_ok-test_length.ensures) c.in_ok-count.ensures in
    let t = as_read read_edits_of _ _ (sym c.in_ok-test_length-2.ensures) c.in_ok-edit_count.ensures in
    sym (all_taken a.score.now a.edits.now a.bank (rw (zero_words (most_rows * row_words)) at s) (rw (zero_words (most_edits * edit_words)) at t) (sym c.in_ok-test_bank.ensures))

pub returns-clause-within : goal.returns-clause-within
returns-clause-within c =
    let few = read_fits _ _ _ (ap (λ (o : Outcome). o.answer) (sym c.in_ok-count.ensures)) in
    let fewer = read_edits_fits _ _ _ (ap (λ (o : Outcome). o.answer) (sym c.in_ok-edit_count.ensures)) in
    let long = zeros_long _ (zero_words (most_rows * row_words)) in
    let words_long = zeros_long _ (zero_words (most_edits * edit_words)) in
    record { rows_most = omega (arith, few, long); edits_most = omega (arith, fewer, words_long) }
