-- What an accepted score brings to rendering. Each of its lines was tested by its limits, and the rows that are left are those of its lines.
use Rattle.std.proofs.Common.{◌≡◌, refl, sym, ap, ◌∙◌, Bool, true, false, cond, List, [], ◌∷◌, ◌++◌, append_assoc, ℕ, suc, ◌+◌, ◌*◌, arith, length, drop, length-append, length-drop, take_at, drop_at, Ok, Err, None}
use Rattle.std.proofs.Math.ListN.{length-map}
use Rattle.names.specs.declared.Source.{Source}
use Rattle.score.specs.declared.refusal.Refusal.TheVariants.{Limit, Names}
use Rattle.score.specs.Numbers.{Tested, accepted}
use Rattle.score.specs.Rows.{row_words}
use Rattle.score.specs.Limits.{row_within, first_bad, bad_refusal, limit_refusal}
use Rattle.text.specs.Text.{Line, lines_of, first_of, rest_of}
use Rattle.names.specs.Sources.{sources_of, sources_by, names_on, holds_names}
use Rattle.values.specs.Lines.{row_of, rows_of, test_line}
use Rattle.reader.specs.Reading.{Answer, test_lines, test_text, text_rows, test_count, read_text, score_table, read_of, Outcome, Accepted}
use Rattle.values.proofs.Values.{value, by_limit}
use Rattle.reader.proofs.Testing.{same_count, not_both, not_refused, both_pass}
use Rattle.reader.proofs.Settling.{room, row_count, settle_refused, settle_count, settle_stored}

-- ---- lines

-- a line that is not refused has a row within the limits
within : (n : ℕ) (sources : List Source) (at : ℕ) (line : Line) → test_line n sources true at line ≡ accepted → row_within (row_of sources line) ≡ true
within n sources at line e = go (row_within (row_of sources line)) (sym (by_limit n sources at line (value n sources at line true e) true refl) ∙ e)
  where
    go : (b : Bool) → cond b accepted (Err (Limit at)) ≡ accepted → b ≡ true
    go true f = refl
    go false f = absurd (not_refused (Limit at) f)

-- of lines that pass the first one does, and so do the others
pub line_passes : (n : ℕ) (sources : List Source) (line : Line) (lines : List Line) (at c : ℕ) → test_lines n sources true at (line ∷ lines) ≡ Ok c
    → (test_line n sources true at line ≡ accepted) × (test_lines n sources true (suc at) lines ≡ Ok c)
unfolding test_lines
line_passes n sources line lines at c e = both_pass (test_line n sources true at line) (test_lines n sources true (suc at) lines) c e

-- What lines that pass come to, where n is the number of the first and c that of the lines in all.
record Good (sources : List Source) (lines : List Line) (rest : List ℕ) (at c : ℕ) : Type 0 where
  count : c ≡ at + length lines
  long : length (rows_of sources lines) ≡ row_words * length lines
  none : first_bad (length lines) (rows_of sources lines ++ rest) ≡ None

module _ (n : ℕ) (sources : List Source) (five : length sources ≡ row_words) where
  row_long : (line : Line) → length (row_of sources line) ≡ row_words
  unfolding row_of
  row_long line = length-map sources _ ∙ five

  one_more : (line : Line) (lines : List Line) (rest : List ℕ) (at c : ℕ) → row_within (row_of sources line) ≡ true → Good sources lines rest (suc at) c → Good sources (line ∷ lines) rest at c
  unfolding rows_of first_bad
  one_more line lines rest at c w g =
      let row = row_of sources line in
      let later = rows_of sources lines ++ rest in
      let l = row_long line in
      record {
        count = omega (arith, g.count);
        long = length-append row (rows_of sources lines) ∙ omega (arith, g.long);
        none = rw (append_assoc, take_at row later row_words l, drop_at row later row_words l, w, g.none);
      }

  all_good : (lines : List Line) (rest : List ℕ) (at c : ℕ) → test_lines n sources true at lines ≡ Ok c → Good sources lines rest at c
  unfolding test_lines rows_of first_bad
  all_good [] rest at c e = record { count = omega (arith, same_count at c e); long = refl; none = refl }
  all_good (line ∷ lines) rest at c e =
      let p = line_passes n sources line lines at c e in
      one_more line lines rest at c (within n sources at line p.0) (all_good lines rest (suc at) c p.1)

-- ---- a text

module _ (lines : List Line) where
  abbrev sources : List Source
  sources = sources_by score_table lines

  five_sources : length sources ≡ row_words
  unfolding sources_of score_table
  five_sources = refl

  -- a text that passes has its names, and its lines pass
  pub text_passes : (c : ℕ) → test_text score_table true lines ≡ Ok c
      → (holds_names score_table (first_of lines) ≡ true) × (test_lines (names_on lines) sources true 0 (rest_of lines) ≡ Ok c)
  unfolding test_text
  text_passes c e = go (holds_names score_table (first_of lines)) e
    where
      go : (b : Bool) → cond b (test_lines (names_on lines) sources true 0 (rest_of lines)) (Err Names) ≡ Ok c
          → (b ≡ true) × (test_lines (names_on lines) sources true 0 (rest_of lines) ≡ Ok c)
      go true e = (refl, e)
      go false e = absurd (not_both Names c e)

  text_good : (rest : List ℕ) (c : ℕ) → test_text score_table true lines ≡ Ok c → Good sources (rest_of lines) rest 0 c
  text_good rest c e = all_good (names_on lines) sources five_sources (rest_of lines) rest 0 c (text_passes c e).1

  pub rows_long : (c : ℕ) → test_text score_table true lines ≡ Ok c → length (text_rows score_table lines) ≡ row_words * c
  unfolding text_rows
  rows_long c e = let g = text_good [] c e in omega (arith, g.long, g.count)

  module _ (lent : List ℕ) (c : ℕ) where
    abbrev rows : List ℕ
    rows = text_rows score_table lines

    abbrev left : List ℕ
    left = rows ++ drop (row_words * c) lent

    left_good : test_text score_table true lines ≡ Ok c → test_count true row_words c (length lent) ≡ accepted → Accepted c lent left
    unfolding text_rows limit_refusal bad_refusal
    left_good t n =
        let rest = drop (row_words * c) lent in
        let g = text_good rest c t in
        let space = room true row_words c (length lent) n in
        let most = row_count row_words c (length lent) n in
        let all : c ≡ length (rest_of lines) = omega (arith, g.count) in
        let none : first_bad c (rows_of sources (rest_of lines) ++ rest) ≡ None = rw (sym all) at g.none in
        record {
          some = most.0;
          few = most.1;
          space = space;
          long = length-append (rows_of sources (rest_of lines)) rest ∙ omega (arith, g.long, length-drop (row_words * c) lent);
          passes = rw none;
        }

-- ---- What is known of a text that was read.

-- Its lines were tested, its count is not refused, and the rows that are left are its own and then what was lent.
pub record Settled (text lent : List ℕ) (c : ℕ) : Type 0 where
  pub tested : test_text score_table true (lines_of text) ≡ Ok c
  pub counted : test_count true row_words c (length lent) ≡ accepted
  pub stored : (read_of text lent).rows ≡ text_rows score_table (lines_of text) ++ drop (row_words * c) lent

module _ (text lent : List ℕ) (c : ℕ) where
  abbrev all : List ℕ
  all = text_rows score_table (lines_of text)

  by_answer : (r : Answer) → test_text score_table true (lines_of text) ≡ r → (read_of text lent).answer ≡ Ok c → Settled text lent c
  unfolding read_of read_text score_table
  by_answer (Err q) k e =
      let s = settle_refused true row_words all lent (test_text score_table true (lines_of text)) q k in
      absurd (not_both q c (rw (sym s) at e))
  by_answer (Ok a) k e = go (test_count true row_words a (length lent)) refl
    where
      go : (t : Tested) → test_count true row_words a (length lent) ≡ t → Settled text lent c
      go (Ok u) z =
          let s = settle_stored true row_words all lent (test_text score_table true (lines_of text)) a k z in
          let m : a ≡ c = same_count a c (rw (sym s) at e) in
          record { tested = rw m at k; counted = rw m at z; stored = ap (λ (o : Outcome). o.rows) (sym s) ∙ ap (λ (n : ℕ). all ++ drop (row_words * n) lent) m }
      go (Err r) z =
          let s = settle_count true row_words all lent (test_text score_table true (lines_of text)) a k r z in
          absurd (not_both r c (rw (sym s) at e))

  pub settled : (read_of text lent).answer ≡ Ok c → Settled text lent c
  settled = by_answer (test_text score_table true (lines_of text)) refl

pub accepted_passes : (text lent : List ℕ) (count : ℕ) → (read_of text lent).answer ≡ Ok count → Accepted count lent (read_of text lent).rows
accepted_passes text lent count e = let s = settled text lent count e in rw s.stored (left_good (lines_of text) lent count s.tested s.counted)
