-- What a tested text comes to: the cases of `test_count`, `settle` and `read_text`, each by the tests that lead to it.
use Rattle.std.proofs.Common.{◌≡◌, refl, sym, ap, ◌∙◌, ⊎_elim, Bool, true, false, cond, ◌&&◌, ◌||◌, List, [], ◌∷◌, ◌++◌, ℕ, suc, ◌+◌, ◌*◌, ◌/◌, ◌≤◌, ◌<◌, mul_comm, le-div_iff_mul-le, div-lt_iff_lt-mul, arith, lt-ltb, le-ltb, ltb-false, eqb, ltb, length, take, drop, Ok, Err, map, get_or}
use Rattle.std.proofs.lemmas.Bool.{eqb-false}
use Rattle.std.proofs.Math.ListN.{length-map}
use Rattle.score.specs.declared.refusal.Refusal.{Refusal}
use Rattle.names.specs.declared.Source.{Source}
use Rattle.score.specs.declared.refusal.Refusal.TheVariants.{Rows, Names, Space}
use Rattle.score.specs.Numbers.{accepted}
use Rattle.score.specs.Rows.{most_rows}
use Rattle.text.specs.Text.{lf, space as blank, Line, lines_of, first_of, fields_of}
use Rattle.names.specs.Sources.{Entry, source_of, sources_of, each_readable, column_count, each_once, holds_names}
use Rattle.values.specs.Lines.{rows_of, test_line}
use Rattle.reader.specs.Reading.{Answer, outcome, test_lines, test_text, text_rows, refuse, test_count, settle, read_text}
use Rattle.lists.proofs.Cases.{both, le_or_lt}
use Rattle.text.proofs.Split.{reach, first_piece}
use Rattle.text.proofs.FirstLine.{first_line, open_line}
use Rattle.values.proofs.Values.{unlimited, value}
use Rattle.reader.proofs.Testing.{not_refused, both_pass}

-- ---- 6, and then 12
pub room_for : (words count lent : ℕ) → 0 < words → ltb lent (words * count) ≡ ltb (lent / words) count
room_for words count lent some = ⊎_elim less enough (le_or_lt count (lent / words))
  where
    less : count ≤ lent / words → ltb lent (words * count) ≡ ltb (lent / words) count
    less h = le-ltb lent (words * count) (rw (mul_comm words count) ((le-div_iff_mul-le some).0 h)) ∙ sym (le-ltb (lent / words) count h)

    enough : lent / words < count → ltb lent (words * count) ≡ ltb (lent / words) count
    enough h = lt-ltb lent (words * count) (rw (mul_comm words count) ((div-lt_iff_lt-mul some).0 h)) ∙ sym (lt-ltb (lent / words) count h)

module _ (score : Bool) (words count lent : ℕ) where
  -- what is not refused has room
  pub room : test_count score words count lent ≡ accepted → words * count ≤ lent
  unfolding test_count
  room e = go (score && (eqb count 0 || ltb most_rows count)) (ltb lent (words * count)) refl e
    where
      go : (b c : Bool) → ltb lent (words * count) ≡ c → cond b (Err Rows) (cond c (Err Space) accepted) ≡ accepted → words * count ≤ lent
      go true c l e = absurd (not_refused Rows e)
      go false true l e = absurd (not_refused Space e)
      go false false l e = ltb-false lent (words * count) l

-- and in a score it is 1 to 4,096 rows
pub row_count : (words count lent : ℕ) → test_count true words count lent ≡ accepted → (0 < count) × (count ≤ most_rows)
unfolding test_count
row_count words count lent e = go (eqb count 0) (ltb most_rows count) (ltb lent (words * count)) refl refl e
  where
    go : (z m c : Bool) → eqb count 0 ≡ z → ltb most_rows count ≡ m → cond (z || m) (Err Rows) (cond c (Err Space) accepted) ≡ accepted → (0 < count) × (count ≤ most_rows)
    go true m c p q e = absurd (not_refused Rows e)
    go false true c p q e = absurd (not_refused Rows e)
    go false false c p q e = let n = eqb-false count 0 p in (omega arith, ltb-false most_rows count q)

module _ (score : Bool) (words : ℕ) (rows lent : List ℕ) (answer : Answer) where
  pub settle_refused : (r : Refusal) → answer ≡ Err r → refuse r lent ≡ settle score words answer rows lent
  unfolding settle
  settle_refused r e = rw e

  module _ (count : ℕ) (e : answer ≡ Ok count) where
    pub settle_count : (r : Refusal) → test_count score words count (length lent) ≡ Err r → refuse r lent ≡ settle score words answer rows lent
    unfolding settle
    settle_count r n = rw (e, n)

    pub settle_stored : test_count score words count (length lent) ≡ accepted → outcome (Ok count) (rows ++ drop (words * count) lent) ≡ settle score words answer rows lent
    unfolding settle
    settle_stored n = rw (e, n)

-- a text that passes with its limits passes without
free : (n : ℕ) (sources : List Source) (at : ℕ) (line : Line) → test_line n sources true at line ≡ accepted → test_line n sources false at line ≡ accepted
free n sources at line e = unlimited n sources at line (value n sources at line true e) false refl

pub passes_free : (n : ℕ) (sources : List Source) (score : Bool) (lines : List Line) (at c : ℕ) → test_lines n sources score at lines ≡ Ok c → test_lines n sources false at lines ≡ Ok c
unfolding test_lines
passes_free n sources false lines at c e = e
passes_free n sources true [] at c e = e
passes_free n sources true (line ∷ lines) at c e =
    let p = both_pass (test_line n sources true at line) (test_lines n sources true (suc at) lines) c e in
    rw (free n sources at line p.0) (passes_free n sources true lines (suc at) c p.1)

-- ---- 10, and then the lines
pub some_fields : (line : List ℕ) → 0 < length (fields_of line)
some_fields line = omega (arith, ap length (first_piece blank line))

pub all_readable : (n : ℕ) (sources : List Source) → each_once n sources ≡ true → each_readable n sources ≡ true
unfolding each_once
all_readable n sources e = (both (each_readable n sources) (eqb (column_count sources) n) e).0

module _ (score : Bool) (table : List Entry) (text lent : List ℕ) where
  not_named : holds_names table (first_of (lines_of text)) ≡ false → refuse Names lent ≡ read_text score table text lent
  unfolding read_text test_text settle
  not_named e = rw e

  pub no_lf : length text ≤ reach lf text → refuse Names lent ≡ read_text score table text lent
  unfolding holds_names
  no_lf h = not_named (rw (open_line text h))

  module _ (end : ℕ) (e : end ≡ reach lf text) (h : end < length text) (sources : List Source) (q : sources ≡ sources_of table (fields_of (take end text))) where
    abbrev names : ℕ
    names = length (fields_of (take end text))

    by_first_line : holds_names table (first_of (lines_of text)) ≡ each_once names sources
    unfolding holds_names
    by_first_line = rw (first_line text end e h, q)

    pub names_wrong : each_once names sources ≡ false → refuse Names lent ≡ read_text score table text lent
    names_wrong w = not_named (by_first_line ∙ w)

    pub names_right : each_once names sources ≡ true
        → settle score (length sources) (test_lines names sources score 0 (lines_of (drop (end + 1) text))) (rows_of sources (lines_of (drop (end + 1) text))) lent
        ≡ read_text score table text lent
    unfolding read_text test_text text_rows sources_of
    names_right w = rw (by_first_line, w, first_line text end e h, q, length-map table (source_of (fields_of (take end text))))

-- ---- the table of five names
pub five : {a b c d e a' b' c' d' e' : Entry} → a ≡ a' → b ≡ b' → c ≡ c' → d ≡ d' → e ≡ e' → a ∷ b ∷ c ∷ d ∷ e ∷ [] ≡ a' ∷ b' ∷ c' ∷ d' ∷ e' ∷ []
five p q r s t = rw (p, q, r, s, t) refl

pub five_of : {X Y : Type 0} (f : X → Y) (d : X) (l : List X) → length l ≡ 5
    → f (get_or l 0 d) ∷ f (get_or l 1 d) ∷ f (get_or l 2 d) ∷ f (get_or l 3 d) ∷ f (get_or l 4 d) ∷ [] ≡ map f l
five_of f d [] h = absurd (omega arith)
five_of f d (p ∷ []) h = absurd (omega arith)
five_of f d (p ∷ q ∷ []) h = absurd (omega arith)
five_of f d (p ∷ q ∷ r ∷ []) h = absurd (omega arith)
five_of f d (p ∷ q ∷ r ∷ s ∷ []) h = absurd (omega arith)
five_of f d (p ∷ q ∷ r ∷ s ∷ t ∷ []) h = refl
five_of f d (p ∷ q ∷ r ∷ s ∷ t ∷ u ∷ l) h = absurd (omega arith)
