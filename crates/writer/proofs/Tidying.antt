-- Reading and writing together: the claim, case by case.
use Rattle.std.proofs.Common.{◌≡◌, refl, sym, ap, ◌∙◌, true, false, List, [], ◌∷◌, ◌++◌, map, ℕ, zero, suc, ◌+◌, ◌*◌, ◌^◌, ◌≤◌, ◌<◌, mul_comm, zero-add, arith, ne_eqb, le-ltb, eqb, length, get_or, take, drop, take_at, take-take, take_all, Ok, Err}
use Rattle.score.specs.Numbers.{Tested, accepted}
use Rattle.score.specs.Rows.{row_words, most_rows, wrong_rows}
use Rattle.text.specs.Text.{Line, lines_of, first_of, rest_of, text_of, field_of, no_capital}
use Rattle.names.specs.Sources.{holds_names, names_on, sources_by}
use Rattle.values.specs.Lines.{rows_of}
use Rattle.reader.specs.Reading.{score_table, test_lines, text_rows, test_count, read_text, read_of}
use Rattle.reader.specs.Reading as reading
use Rattle.lists.proofs.Cases.{both}
use Rattle.lists.proofs.Places.{drop_of_take}
use Rattle.score.proofs.FirstBad.{none_refused}
use Rattle.text.proofs.Joining.{each_ended, fields_on, text_of_lines}
use Rattle.text.proofs.LowerDigits.{field_no_capital, each_lower, lines_lower, no_capital_text}
use Rattle.reader.proofs.Accepted.{Settled, settled, accepted_passes}
use Rattle.reader.proofs.Accepted as accepting
use Rattle.reader.proofs.Testing as testing
use Rattle.reader.proofs.Storing.{counted}
use Rattle.reader.proofs.Settling.{settle_stored}
use Rattle.writer.specs.Writing.{text_bytes, names, row_lines, score_text, write_refusal, write_of, Outcome}
use Rattle.writer.specs.Tidy.{rows_in, Tidied, Tidy, TidyWriter}
use Rattle.writer.proofs.Lines.{text_long}
use Rattle.writer.proofs.Refusing.{Writable, passes, writable, write_refused, write_done}
use Rattle.writer.proofs.Fits.{text_fits}
use Rattle.writer.proofs.AsItStood.{lines_ended, lines_back, named}
use Rattle.writer.proofs.ReadBack.{Fit, fit_each, columns, text_lines, names_fields, names_columns, five_names, text_rows_lem, text_passes}

-- ---- a score that was written
-- What is known of it: nothing refused it, and the bytes are its text.
record Wrote (count : ℕ) (rows lent : List ℕ) (bytes : ℕ) : Type 0 where
  fine : Writable count rows lent
  is : take bytes (write_of count rows lent).text ≡ score_text count rows

module _ (count : ℕ) (rows lent : List ℕ) (bytes : ℕ) where
  wrote : (write_of count rows lent).answer ≡ Ok bytes → Wrote count rows lent bytes
  wrote e = go (write_refusal count rows lent) refl
    where
      go : (t : Tested) → write_refusal count rows lent ≡ t → Wrote count rows lent bytes
      go (Ok u) n =
          let d = write_done count rows lent n in
          let l = testing.same_count _ bytes (ap (λ (o : Outcome). o.answer) d ∙ e) in
          record {
            fine = writable count rows lent n;
            is = ap (λ (o : Outcome). take bytes o.text) (sym d) ∙ take_at (score_text count rows) _ bytes l;
          }
      go (Err r) n = absurd (testing.not_both r bytes (ap (λ (o : Outcome). o.answer) (write_refused count rows lent r n) ∙ e))

-- ---- reading what was written
count_right : (count words : ℕ) → 0 < count → count ≤ most_rows → count * row_words ≤ words → test_count true row_words count words ≡ accepted
unfolding test_count
count_right count words l m h =
    let n : eqb count 0 ≡ false = ne_eqb count 0 (λ e. omega (arith, e)) in
    rw (n, le-ltb most_rows count m, le-ltb words (row_words * count) (omega (arith, mul_comm row_words count)))

five_entries : length score_table ≡ row_words
unfolding score_table
five_entries = refl

reads_back : (count bytes : ℕ) (rows lent words : List ℕ) → ((i : ℕ) → get_or rows i 0 < 2 ^ 32) → (write_of count rows lent).answer ≡ Ok bytes
    → count * row_words ≤ length words
    → read_of (take bytes (write_of count rows lent).text) words ≡ reading.outcome (Ok count) (take (count * row_words) rows ++ drop (count * row_words) words)
unfolding read_of read_text
reads_back count bytes rows lent words f e h =
    let w = wrote count rows lent bytes e in
    let c = w.fine.counted in
    let fit = fit_each rows f in
    let passes = text_passes count rows c.rows_room fit (none_refused count rows w.fine.within) in
    let n = count_right count (length words) c.count_least c.count_most h in
    let s = settle_stored true row_words (take (count * row_words) rows) words (Ok count) count refl n in
    rw (w.is, passes, text_rows_lem count rows c.rows_room fit, five_entries) (sym s ∙ ap (λ (k : ℕ). reading.outcome (Ok count) (take (count * row_words) rows ++ drop k words)) (mul_comm row_words count))

-- ---- writing what was read
writes : (text words lent : List ℕ) (count : ℕ) → (read_of text words).answer ≡ Ok count → text_bytes count ≤ length lent
    → (write_of count (read_of text words).rows lent).answer ≡ Ok (text_bytes count)
writes text words lent count e h =
    let a = accepted_passes text words count e in
    let rows = (read_of text words).rows in
    let room : count * row_words ≤ length rows = omega (arith, a.space, a.long, mul_comm row_words count) in
    let w : wrong_rows 1 most_rows count (length rows) ≡ false = rw (le-ltb count 1 a.some, le-ltb most_rows count a.few, le-ltb (length rows) (count * row_words) room) in
    let p = passes count rows lent w a.passes h in
    sym (ap (λ (o : Outcome). o.answer) (write_done count rows lent (sym p))) ∙ ap (λ (k : ℕ). Ok k) (text_long count rows room)

-- ---- only the words of the rows count
lines_of_front : (count : ℕ) (rows : List ℕ) → row_lines count (take (count * row_words) rows) ≡ row_lines count rows
unfolding row_lines
lines_of_front zero rows = refl
lines_of_front (suc count) rows =
    let k : suc count * row_words ≡ row_words + count * row_words = omega arith in
    rw (k, take-take row_words (row_words + count * row_words) rows (omega arith), drop_of_take row_words (count * row_words) rows, lines_of_front count (drop row_words rows))

text_of_front : (count : ℕ) (front rest : List ℕ) → length front ≡ count * row_words → score_text count (front ++ rest) ≡ score_text count front
unfolding score_text
text_of_front count front rest h =
    let e = lines_of_front count (front ++ rest) in
    ap (λ (ls : List (List (List ℕ))). text_of (names ∷ ls)) (sym e ∙ ap (row_lines count) (take_at front rest (count * row_words) h))

-- ---- a text that was read and written
module _ (text tidy : List ℕ) (t : Tidied text tidy) where
  abbrev n : ℕ
  n = t.count

  read : Settled text t.words n
  read = settled text t.words n t.read

  rows_are : length (rows_in text) ≡ n * row_words
  rows_are = accepting.rows_long (lines_of text) n read.tested ∙ mul_comm row_words n

  fits : Fit (rows_in text)
  fits = text_fits text n read.tested

  pub tidy_is : tidy ≡ score_text n (rows_in text)
  tidy_is =
      sym t.is
      ∙ (wrote n (read_of text t.words).rows t.lent t.bytes t.wrote).is
      ∙ ap (score_text n) read.stored
      ∙ text_of_front n (rows_in text) _ rows_are

  pub same_rows : rows_in tidy ≡ rows_in text
  same_rows = ap rows_in tidy_is ∙ text_rows_lem n (rows_in text) (omega (arith, rows_are)) fits ∙ take_all (n * row_words) (rows_in text) (omega (arith, rows_are))

-- "exactly when their rows are equal"
same_count : (text other tidy_text tidy_other : List ℕ) (t : Tidied text tidy_text) (u : Tidied other tidy_other) → rows_in text ≡ rows_in other → t.count ≡ u.count
same_count text other a b t u e = omega (arith, rows_are text a t, rows_are other b u, ap length e)

equal_bytes : (a b tidy_a tidy_b : List ℕ) → Tidied a tidy_a → Tidied b tidy_b → (tidy_a ≡ tidy_b → rows_in a ≡ rows_in b) × (rows_in a ≡ rows_in b → tidy_a ≡ tidy_b)
equal_bytes a b tidy_a tidy_b t u = (
  λ e. sym (same_rows a tidy_a t) ∙ ap rows_in e ∙ same_rows b tidy_b u,
  λ e.
      tidy_is a tidy_a t
      ∙ ap (λ (k : ℕ). score_text k (rows_in a)) (same_count a b tidy_a tidy_b t u e)
      ∙ ap (score_text u.count) e
      ∙ sym (tidy_is b tidy_b u),
)

-- ---- a tidy text
rows_lower : (count : ℕ) (rows : List ℕ) → lines_lower (row_lines count rows) ≡ true
unfolding row_lines
rows_lower zero rows = refl
rows_lower (suc count) rows = rw (words_lower (take row_words rows)) (rows_lower count (drop row_words rows))
  where
    words_lower : (row : List ℕ) → each_lower (map field_of row) ≡ true
    words_lower [] = refl
    words_lower (w ∷ row) = rw (field_no_capital w) (words_lower row)

tidies : (count bytes : ℕ) (rows lent : List ℕ) → (write_of count rows lent).answer ≡ Ok bytes → Tidy (take bytes (write_of count rows lent).text)
unfolding score_text names score_table no_capital
tidies count bytes rows lent e =
    let w = wrote count rows lent bytes e in
    record {
      in_order = rw (w.is, text_lines count rows) names_fields;
      lower_case = ap no_capital w.is ∙ no_capital_text (names ∷ row_lines count rows) ∙ rows_lower count rows;
    }

-- ---- a tidy text is written as it was read
module _ (text tidy : List ℕ) (d : Tidy text) (t : Tidied text tidy) where
  abbrev lines : List Line
  lines = lines_of text

  abbrev later : List Line
  later = rest_of lines

  by_names : (holds_names score_table (first_of lines) ≡ true) × (test_lines (names_on lines) (sources_by score_table lines) true 0 later ≡ Ok t.count)
  by_names = accepting.text_passes lines t.count (read text tidy t).tested

  by_columns : test_lines row_words columns true 0 later ≡ Ok t.count
  by_columns = rw (d.in_order, names_columns, five_names) at by_names.1

  its_fields : fields_on lines ≡ names ∷ fields_on later
  its_fields = ap fields_on (named lines by_names.0).0 ∙ ap (λ (fields : List (List ℕ)). fields ∷ fields_on later) d.in_order

  all_ended : each_ended lines ≡ true
  all_ended = rw ((named lines by_names.0).0, (named lines by_names.0).1) (lines_ended row_words columns later 0 t.count by_columns)

  whole : text_of (names ∷ fields_on later) ≡ text
  whole = ap text_of (sym its_fields) ∙ text_of_lines text all_ended

  lower : lines_lower (fields_on later) ≡ true
  lower = (both (each_lower names) (lines_lower (fields_on later)) (sym (no_capital_text (names ∷ fields_on later)) ∙ ap no_capital whole ∙ d.lower_case)).1

  unchanged : tidy ≡ text
  unfolding score_text text_rows
  unchanged =
      let many : t.count ≡ length later = counted row_words columns true later 0 t.count by_columns ∙ zero-add (length later) in
      let rows : rows_in text ≡ rows_of columns later = rw (d.in_order, names_columns) in
      tidy_is text tidy t
      ∙ ap (λ (ls : List (List (List ℕ))). text_of (names ∷ ls))
      (ap (row_lines t.count) rows ∙ ap (λ (k : ℕ). row_lines k (rows_of columns later)) many ∙ lines_back later 0 t.count by_columns lower)
      ∙ whole

-- ---- the claim
pub tidy_writer : TidyWriter
tidy_writer =
    record {
      long = text_long;
      reads_back = reads_back;
      writes = writes;
      equal_bytes = equal_bytes;
      tidies = tidies;
      unchanged = unchanged;
    }
