-- What a run does to any take, by induction on its rows: the rows that it renders are made from the words that the take then keeps before
-- them, no other row is written, and it stops at the first row from its stretch's end on that says so.
use Rattle.std.proofs.Common.{◌≡◌, refl, sym, ap, ◌∙◌, subst, List, Bool, true, false, cond, ◌⊎◌, inl, inr, ℕ, zero, suc, ◌+◌, ◌≤◌, ◌<◌, arith, eq-or-lt_of_le, le_refl, eqb-true, eqb}
use Rattle.std.proofs.lemmas.Bool.{eqb-false}
use Rattle.lists.specs.Lists.{same}
use Rattle.utils.specs.Holds.{none, plus, total}
use Rattle.utils.specs.declared.holds.Holds.{Holds}
use Rattle.score.specs.Rows.{row_at}
use Rattle.rows.specs.declared.Report.{Report}
use Rattle.rows.specs.Rows.{Setup, Take, kept_at, before_row, words_before, Row, row_by, row_in, put_words, both, Run, idle, after, stops_of, run_of}
use Rattle.retakes.specs.Retakes.{words_at, holds_of, made_from}
use Rattle.rows.proofs.Ending.{not_the_end}
use Rattle.runs.specs.Inner.{SameLengths}
use Rattle.retakes.proofs.Takes.{Roomy, Elsewhere, lengths_then, roomy_still, row_sized, put_lengths, put_elsewhere, put_words_back, elsewhere_then, words_elsewhere}

module _ (s : Setup) (rows : List ℕ) where
  -- Row i stands as made from the words that the take keeps before it.
  abbrev pub Made : Take → ℕ → Type 0
  Made t i = words_at s.frames t i ≡ (row_in s rows t.kept i).words

  -- The words before a row are those of the row before it.
  pub before_same : (t u : Take) (i : ℕ) → ((j : ℕ) → suc j ≡ i → words_at s.frames u j ≡ words_at s.frames t j)
      → words_before s u.kept i ≡ words_before s t.kept i
  unfolding before_row
  before_same t u zero h = refl
  before_same t u (suc i) h = ap (λ (w : Take). w.kept) (h i refl)

  -- A row that has the same words before it is the same row.
  pub row_same : (t u : Take) (i : ℕ) → words_before s u.kept i ≡ words_before s t.kept i → row_in s rows u.kept i ≡ row_in s rows t.kept i
  row_same t u i e = ap (λ (b : List ℕ). row_by s (row_at rows i) b) e

  module _ (n : ℕ) where
    -- Whether a run stops before row j, by the take that it was lent and the one that it left.
    abbrev pub StopsAt : Take → Take → ℕ → Bool
    StopsAt t u j = stops_of n rows j (same (words_before s t.kept j) (words_before s u.kept j))

    pub record Ran (a e : ℕ) (t : Take) (r : Run) : Type 0 where
      pub least : e ≤ a + r.report.rows
      pub most : a + r.report.rows ≤ n
      pub lengths : SameLengths t r.left
      pub elsewhere : Elsewhere s.frames a (a + r.report.rows) t r.left
      pub made : (i : ℕ) → a ≤ i → i < a + r.report.rows → Made r.left i
      pub holds : r.report.holds ≡ holds_of (made_from s rows r.left.kept r.report.rows a)
      pub stops : StopsAt t r.left (a + r.report.rows) ≡ true
      pub smallest : (i : ℕ) → e ≤ i → i < a + r.report.rows → StopsAt t r.left i ≡ false

    -- ---- One row.

    module _ (a : ℕ) (t : Take) (h : a < n) (z : Roomy s n rows t) where
      abbrev pub made_row : Row
      made_row = row_in s rows t.kept a

      abbrev pub next : Take
      next = put_words s.frames t a made_row.words

      abbrev one : Report
      one = record { rows = 1; holds = made_row.holds }

      next_elsewhere : Elsewhere s.frames a (a + 1) t next
      next_elsewhere = put_elsewhere s n a rows t made_row.words z h (row_sized s (row_at rows a) _)

      next_lengths : SameLengths t next
      next_lengths = put_lengths s n a rows t made_row.words z h (row_sized s (row_at rows a) _)

      pub next_room : Roomy s n rows next
      next_room = roomy_still s n rows t next next_lengths z

      next_here : words_at s.frames next a ≡ made_row.words
      next_here = put_words_back s n a rows t made_row.words z h (row_sized s (row_at rows a) _)

      -- Before row a, and from row a + 2 on, the words before a row are what they were.
      next_before : (i : ℕ) → (i ≤ a) ⊎ (a + 2 ≤ i) → words_before s next.kept i ≡ words_before s t.kept i
      next_before i o = before_same t next i (λ j q. words_elsewhere s.frames a (a + 1) t next next_elsewhere j (side o j q))
        where
          side : (i ≤ a) ⊎ (a + 2 ≤ i) → (j : ℕ) → suc j ≡ i → (j < a) ⊎ (a + 1 ≤ j)
          side (inl x) j q = inl (omega arith)
          side (inr x) j q = inr (omega arith)

      -- Before row a + 1 they are those that row a keeps.
      next_kept : words_before s next.kept (a + 1) ≡ made_row.words.kept
      unfolding before_row
      next_kept =
          let q : a + 1 ≡ suc a = omega arith in
          ap (λ (i : ℕ). words_before s next.kept i) q ∙ ap (λ (w : Take). w.kept) next_here

      old_kept : words_before s t.kept (a + 1) ≡ kept_at t.kept a
      unfolding before_row
      old_kept =
          let q : a + 1 ≡ suc a = omega arith in
          ap (λ (i : ℕ). words_before s t.kept i) q

      -- A later take that has rows 0 to a as they now are has row a as made.
      made_here : (u : Take) → ((j : ℕ) → j ≤ a → words_at s.frames u j ≡ words_at s.frames next j) → (row_in s rows u.kept a ≡ made_row) × Made u a
      made_here u f =
          let b : words_before s u.kept a ≡ words_before s t.kept a = before_same next u a (λ j q. f j (omega arith)) ∙ next_before a (inl (le_refl a)) in
          let e : row_in s rows u.kept a ≡ made_row = row_same t u a b in
          (e, f a (le_refl a) ∙ next_here ∙ ap (λ (r : Row). r.words) (sym e))

      abbrev test : Bool
      test = stops_of n rows (a + 1) (same (kept_at t.kept a) made_row.words.kept)

      test_is : (u : Take) → ((j : ℕ) → j ≤ a → words_at s.frames u j ≡ words_at s.frames next j) → StopsAt t u (a + 1) ≡ test
      test_is u f =
          let b : words_before s u.kept (a + 1) ≡ made_row.words.kept = before_same next u (a + 1) (λ j q. f j (omega arith)) ∙ next_kept in
          rw (b, old_kept)

      -- The last row of a run.
      ran_last : (e : ℕ) → e ≡ a + 1 → test ≡ true → Ran a e t (after one (idle next))
      unfolding both made_from total
      ran_last e q y =
          let here = made_here next (λ j _. refl) in
          record {
            least = omega arith;
            most = omega arith;
            lengths = next_lengths;
            elsewhere = next_elsewhere;
            made = λ i x z. let w : a ≡ i = omega arith in subst (λ (j : ℕ). Made next j) w here.1;
            holds = ap (λ (m : Row). plus m.holds none) (sym here.0);
            stops = test_is next (λ j _. refl) ∙ y;
            smallest = λ i x z. absurd (omega arith);
          }

      -- A row, and the rest of the run: its stretch ends where it did, or no stop was found at row a + 1.
      ran_more : (e e' : ℕ) (r : Run) → a < e → a + 2 ≤ e' → (e' ≡ e) ⊎ ((e ≡ a + 1) × ((e' ≡ a + 2) × (test ≡ false)))
          → Ran (a + 1) e' next r → Ran a e t (after one r)
      unfolding both made_from total
      ran_more e e' r x x' o d =
          let u = r.left in
          let end : a + 1 + r.report.rows ≡ a + (1 + r.report.rows) = omega arith in
          let more : suc r.report.rows ≡ 1 + r.report.rows = omega arith in
          let kept : (j : ℕ) → j ≤ a → words_at s.frames u j ≡ words_at s.frames next j =
          λ j l. words_elsewhere s.frames (a + 1) (a + 1 + r.report.rows) next u d.elsewhere j (inl (omega arith)) in
          let here = made_here u kept in
          let beyond : (i : ℕ) → a + 2 ≤ i → StopsAt t u i ≡ StopsAt next u i =
          λ i l. ap (λ (w : List ℕ). stops_of n rows i (same w (words_before s u.kept i))) (sym (next_before i (inr l))) in
          record {
            least = least o;
            most = omega (arith, d.most);
            lengths = lengths_then t next u next_lengths d.lengths;
            elsewhere =
                elsewhere_then s.frames a (a + (1 + r.report.rows)) t next u (omega arith) next_elsewhere
                (subst (λ (j : ℕ). Elsewhere s.frames (a + 1) j next u) end d.elsewhere);
            made = λ i y z. made i z here.1 (eq-or-lt_of_le y);
            holds =
                ap (λ (x : Holds). plus made_row.holds x) d.holds
                ∙ ap (λ (m : Row). plus m.holds (holds_of (made_from s rows u.kept r.report.rows (a + 1)))) (sym here.0)
                ∙ ap (λ (l : ℕ). holds_of (made_from s rows u.kept l a)) more;
            stops = subst (λ (j : ℕ). StopsAt t u j ≡ true) end (beyond (a + 1 + r.report.rows) (omega (arith, d.least)) ∙ d.stops);
            smallest = λ i y z. smallest beyond kept i z o y;
          }
        where
          least : (e' ≡ e) ⊎ ((e ≡ a + 1) × ((e' ≡ a + 2) × (test ≡ false))) → e ≤ a + (1 + r.report.rows)
          least (inl q) = omega (arith, d.least)
          least (inr q) = omega (arith, q.0)

          made : (i : ℕ) → i < a + (1 + r.report.rows) → Made r.left a → (a ≡ i) ⊎ (a < i) → Made r.left i
          made i z m (inl q) = subst (λ (j : ℕ). Made r.left j) q m
          made i z m (inr l) = d.made i (omega arith) (omega arith)

          smallest : ((i : ℕ) → a + 2 ≤ i → StopsAt t r.left i ≡ StopsAt next r.left i) → ((j : ℕ) → j ≤ a → words_at s.frames r.left j ≡ words_at s.frames next j)
              → (i : ℕ) → i < a + (1 + r.report.rows) → (e' ≡ e) ⊎ ((e ≡ a + 1) × ((e' ≡ a + 2) × (test ≡ false))) → e ≤ i → StopsAt t r.left i ≡ false
          smallest beyond kept i z (inl q) y = beyond i (omega arith) ∙ d.smallest i (omega arith) (omega arith)
          smallest beyond kept i z (inr q) y = go (eq-or-lt_of_le {n = a + 1} {m = i} (omega (arith, q.0)))
            where
              go : (a + 1 ≡ i) ⊎ (a + 1 < i) → StopsAt t r.left i ≡ false
              go (inl w) = subst (λ (j : ℕ). StopsAt t r.left j ≡ false) w (test_is r.left kept ∙ q.1.1)
              go (inr l) = beyond i (omega arith) ∙ d.smallest i (omega (arith, q.1.0)) (omega arith)

    -- ---- The run, where l rows are enough.

    pub run_ran : (l a e : ℕ) (t : Take) → a < e → e ≤ n → n ≤ a + l → Roomy s n rows t → Ran a e t (run_of s rows n l a e t)
    unfolding run_of
    run_ran zero a e t h g m z = absurd (omega arith)
    run_ran (suc l) a e t h g m z =
        let k : a < n = omega arith in
        go k (eqb (a + 1) e) (test a t k z) (eqb-true (a + 1) e) (eqb-false (a + 1) e) refl (λ c x y. run_ran l (a + 1) c (next a t k z) x y (omega arith) (next_room a t k z))
      where
        go : (k : a < n) (x y : Bool) → (x ≡ true → a + 1 ≡ e) → (x ≡ false → a + 1 ≡ e → ⊥) → test a t k z ≡ y
            → ((c : ℕ) → a + 1 < c → c ≤ n → Ran (a + 1) c (next a t k z) (run_of s rows n l (a + 1) c (next a t k z)))
            → Ran a e t (after (one a t k z) (cond x (cond y (idle (next a t k z)) (run_of s rows n l (a + 1) (a + 2) (next a t k z))) (run_of s rows n l (a + 1) e (next a t k z))))
        go k true true q o y again = ran_last a t k z e (sym (q refl)) y
        go k true false q o y again =
            ran_more a t k z e (a + 2) _ h (le_refl _) (inr (sym (q refl), (refl, y))) (again (a + 2) (omega arith) (omega (arith, not_the_end n rows (a + 1) _ y)))
        go k false y q o w again =
            let f : a + 2 ≤ e = omega (arith, o refl) in
            ran_more a t k z e e _ h f (inl refl) (again e (omega arith) g)
