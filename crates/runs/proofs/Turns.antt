-- The loop over the rows of a run, by what is left to do: rendering a row and going on is the definition's next step.
use Rattle.std.proofs.Common.{◌≡◌, refl, sym, ap, ◌∙◌, List, Bool, true, false, cond, ℕ, suc, ◌+◌, ◌-◌, ◌*◌, ◌≤◌, ◌<◌, add-zero, zero-add, add_assoc, eqb, Option, None, Some, arith, le_refl}
use Rattle.std.proofs.lemmas.Bool.{eqb-false}
use Rattle.lists.specs.Lists.{same}
use Rattle.lists.proofs.Places.{part_end}
use Rattle.utils.specs.Holds.{none, plus, AtMost, most_count}
use Rattle.utils.specs.Rendered.{most_frames, most_holds}
use Rattle.utils.specs.declared.holds.Holds.{Holds}
use Rattle.utils.proofs.Sums.{plus_none, none_plus, plus_assoc, most_none, most_more, most_plus}
use Rattle.score.specs.Rows.{most_rows}
use Rattle.rows.specs.declared.Report.{Report}
use Rattle.rows.specs.Rows.{Setup, Take, Row, kept_at, row_in, nothing, both, Run, reported, idle, after, stops_of, run_of}
use Rattle.rows.specs.Ends.{end_of}
use Rattle.rows.proofs.Ending.{not_the_end}
use Rattle.runs.specs.Inner.{Holding, Room, RowDone, SameLengths}

-- ---- Reports, summed.

abbrev report : ℕ → Holds → Report
report n h = record { rows = n; holds = h }

both_nothing : (p : Report) → both p nothing ≡ p
unfolding both
both_nothing p = ap (λ (n : ℕ). report n (plus p.holds none)) (add-zero p.rows) ∙ ap (λ (h : Holds). report p.rows h) (plus_none p.holds)

nothing_both : (p : Report) → both nothing p ≡ p
unfolding both
nothing_both p = ap (λ (n : ℕ). report n (plus none p.holds)) (zero-add p.rows) ∙ ap (λ (h : Holds). report p.rows h) (none_plus p.holds)

both_assoc : (p q r : Report) → both (both p q) r ≡ both p (both q r)
unfolding both
both_assoc p q r =
    ap (λ (n : ℕ). report n (plus (plus p.holds q.holds) r.holds)) (add_assoc p.rows q.rows r.rows)
    ∙ ap (λ (h : Holds). report (p.rows + (q.rows + r.rows)) h) (plus_assoc p.holds q.holds r.holds)

-- ---- A row within a take.

pub room : (frames n k : ℕ) (rows : List ℕ) (t₀ t : Take) → Holding frames n rows t₀ → k < n → SameLengths t₀ t → Room frames k rows t
room frames n k rows t₀ t f h e =
    let b : k * frames + frames ≤ n * frames = part_end k n frames h in
    record {
      frames_most = f.frames_most;
      row_most = omega (arith, f.rows_most);
      rows_room = omega (arith, f.rows_room);
      out_room = omega (arith, f.out_room, e.out_long);
      aux_room = omega (arith, f.aux_room, e.aux_long);
      kept_room = omega (arith, f.kept_room, e.kept_long);
    }

-- ---- The loop.

-- The rows from `from` up to k are rendered, and the stretch ends before row `end`.
pub record Running (s : Setup) (rows : List ℕ) (n from to : ℕ) (t₀ t : Take) (k end : ℕ) (holds : Holds) : Type 0 where
  pub at : k < end
  pub most : end ≤ n
  pub since : from ≤ k
  pub lengths : SameLengths t₀ t
  pub few : AtMost (k * (most_holds * most_frames)) holds
  pub is : (l : ℕ) → l + (k - from) ≡ n → after (report (k - from) holds) (run_of s rows n l k end t) ≡ run_of s rows n n from to t₀

module _ (s : Setup) (rows : List ℕ) (n from to : ℕ) where
  pub running_none : (t : Take) → from < to → to ≤ n → Running s rows n from to t t from to none
  running_none t h m =
      record {
        at = h;
        most = m;
        since = le_refl from;
        lengths = record { out_long = refl; aux_long = refl; kept_long = refl };
        few = most_none (from * (most_holds * most_frames));
        is = λ l e.
            let z : from - from ≡ 0 = omega arith in
            let x : l ≡ n = omega arith in
            rw (z, x) (ap (λ (p : Report). reported p (run_of s rows n n from to t).left) (nothing_both (run_of s rows n n from to t).report));
      }

  module _ (t₀ t t' : Take) (k end : ℕ) (e : Option ℕ) (holds h : Holds) (b : Bool) (frames_most : s.frames ≤ most_frames) (done : RowDone s rows k t h b t')
      (end_is : e ≡ end_of n rows (k + 1) end b) (r : Running s rows n from to t₀ t k end holds) where
    abbrev m : Row
    m = row_in s rows t.kept k

    abbrev stops : Bool
    stops = stops_of n rows (k + 1) (same (kept_at t.kept k) m.words.kept)

    -- The rows rendered with this one.
    abbrev sum : Report
    sum = report (k + 1 - from) (plus holds h)

    -- What is still to do, with l rows more.
    abbrev rest : Bool → Bool → ℕ → Take → Run
    rest x y l u = cond x (cond y (idle u) (run_of s rows n l (k + 1) (k + 2) u)) (run_of s rows n l (k + 1) end u)

    sum_is : sum ≡ both (report (k - from) holds) (report 1 m.holds)
    unfolding both
    sum_is =
        let c : k + 1 - from ≡ k - from + 1 = omega (arith, r.since) in
        ap (λ (x : ℕ). report x (plus holds h)) c ∙ ap (λ (x : Holds). report (k - from + 1) (plus holds x)) done.holds_is

    -- The definition's step.
    step : (l : ℕ) → l + (k + 1 - from) ≡ n → after sum (rest (eqb (k + 1) end) stops l t') ≡ run_of s rows n n from to t₀
    unfolding run_of
    step l x =
        let R = rest (eqb (k + 1) end) stops l in
        let before = report (k - from) holds in
        let one = report 1 m.holds in
        ap (λ (p : Report). after p (R t')) sum_is
        ∙ ap (λ (p : Report). reported p (R t').left) (both_assoc before one (R t').report)
        ∙ ap (λ (u : Take). after before (after one (R u))) done.left_is
        ∙ r.is (suc l) (omega (arith, r.since))

    end_by : e ≡ cond (eqb (k + 1) end) (cond stops None (Some (k + 1 + 1))) (Some end)
    unfolding end_of
    end_by = end_is ∙ ap (λ (x : Bool). cond (eqb (k + 1) end) (cond (stops_of n rows (k + 1) x) None (Some (k + 1 + 1))) (Some end)) done.same_is

    pub running_ends : e ≡ None → reported sum t' ≡ run_of s rows n n from to t₀
    running_ends z = go (eqb (k + 1) end) stops (sym end_by ∙ z) (step (n - (k + 1 - from)) (omega (arith, r.at, r.most)))
      where
        go : (x y : Bool) → cond x (cond y None (Some (k + 1 + 1))) (Some end) ≡ None
            → after sum (rest x y (n - (k + 1 - from)) t') ≡ run_of s rows n n from to t₀
            → reported sum t' ≡ run_of s rows n n from to t₀
        go true true q w = ap (λ (p : Report). reported p t') (sym (both_nothing sum)) ∙ w
        go true false q w = cc
        go false y q w = cc

    -- Where the stretch ends next.
    record Next (e' : ℕ) : Type 0 where
      further : k + 1 < e'
      within : e' ≤ n
      goes : (l : ℕ) → l + (k + 1 - from) ≡ n → after sum (run_of s rows n l (k + 1) e' t') ≡ run_of s rows n n from to t₀

    further_on : stops ≡ false → k + 2 ≤ n
    further_on y = omega (arith, not_the_end n rows (k + 1) _ y, r.at, r.most)

    next : (e' : ℕ) → e ≡ Some e' → Next e'
    next e' z = go (eqb (k + 1) end) stops (eqb-false (k + 1) end) refl (sym end_by ∙ z) step
      where
        go : (x y : Bool) → (x ≡ false → k + 1 ≡ end → ⊥) → stops ≡ y → cond x (cond y None (Some (k + 1 + 1))) (Some end) ≡ Some e'
            → ((l : ℕ) → l + (k + 1 - from) ≡ n → after sum (rest x y l t') ≡ run_of s rows n n from to t₀) → Next e'
        go true true o y q w = cc
        go true false o y q w =
            let i : k + 1 + 1 ≡ e' = cc in
            let c : e' ≡ k + 2 = omega arith in
            record { further = omega arith; within = omega (arith, further_on y); goes = λ l x. rw c (w l x) }
        go false y o _ q w =
            let i : end ≡ e' = cc in
            record { further = omega (arith, o refl, r.at); within = omega (arith, r.most); goes = λ l x. rw (sym i) (w l x) }

    pub running_more : (e' : ℕ) → e ≡ Some e' → Running s rows n from to t₀ t' (k + 1) e' (plus holds h)
    running_more e' z =
        let d = next e' z in
        let g = done.lengths in
        let c : k * (most_holds * most_frames) + most_holds * s.frames ≤ (k + 1) * (most_holds * most_frames) = omega arith in
        record {
          at = d.further;
          most = d.within;
          since = omega (arith, r.since);
          lengths = record {
            out_long = g.out_long ∙ r.lengths.out_long;
            aux_long = g.aux_long ∙ r.lengths.aux_long;
            kept_long = g.kept_long ∙ r.lengths.kept_long;
          };
          few = most_more c (most_plus r.few done.holds_most);
          is = d.goes;
        }

  -- The sum of the holds fits.
  pub sum_fits : (t₀ t : Take) (k end : ℕ) (holds h : Holds) → s.frames ≤ most_frames → n ≤ most_rows → AtMost (most_holds * s.frames) h
      → Running s rows n from to t₀ t k end holds → AtMost most_count (plus holds h)
  sum_fits t₀ t k end holds h f m a r =
      let c : k * (most_holds * most_frames) + most_holds * s.frames ≤ most_count = omega (arith, r.at, r.most) in
      most_more c (most_plus r.few a)
