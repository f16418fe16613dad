-- Demand 3, `Demand3` of the definitions in `specs/Retakes.antt`: after an accepted rendering every row stands as made from the words that the
-- take keeps before it; a call, by what it does to any take, keeps that up; and a take that stands so begins with the fresh rendering's words.
use Rattle.std.proofs.Common.{eq-eqb, ◌≡◌, refl, sym, ap, ◌∙◌, subst, List, [], ◌∷◌, cond, ◌⊎◌, inl, inr, ℕ, zero, suc, ◌+◌, ◌-◌, ◌*◌, ◌≤◌, ◌<◌, arith, eq-or-lt_of_le, length, take, take_all, Ok, Err, IsOk}
use Rattle.std.proofs.lemmas.Bool.{cases_lt}
use Rattle.lists.proofs.Shifts.{part_of_cut}
use Rattle.utils.specs.declared.holds.Holds.{Holds}
use Rattle.score.specs.Rows.{row_words, word_for, restart, row_at}
use Rattle.rows.specs.Rows.{Setup, Take, kept_at, before_row, words_before, Row, start_of, row_from, row_by}
use Rattle.refusals.specs.declared.Call.{Call}
use Rattle.refusals.specs.declared.Call.TheVariants.{Render}
use Rattle.refusals.specs.Calls.{count_after, rows_after, position}
use Rattle.score.specs.Numbers.{Tested, accepted}
use Rattle.score.specs.declared.refusal.Refusal.{Refusal}
use Rattle.take.specs.Take.{Outcome, moved_by, tested, done_of, call_of}
use Rattle.retakes.specs.Retakes as claim
use Rattle.retakes.specs.Retakes.{
  fresh,
  take_of,
  holds_of,
  rows_from,
  before_in,
  Reel,
  reel,
  refusal_in,
  accepts,
  called,
  next,
  after,
  Five,
  Fives,
  score_of,
  score_with,
  fresh_of,
  laid_over,
  afresh,
  expected,
  came,
  lowest_stop,
  Stop,
  First,
  words_at,
  Past,
  Unchanging,
  Right,
  made_from,
  FreshRetaken,
  EachRight,
  cut,
  Demand3,
}
use Rattle.retakes.proofs.Takes.{Roomy}
use Rattle.retakes.proofs.Runs.{Made, before_same}
use Rattle.retakes.proofs.FreshRows.{fresh_long, before_fresh, rows_fresh, cut_fresh, laid_fresh, fresh_cut}
use Rattle.retakes.proofs.Moves.{Moved, score_laid, moved}
use Rattle.retakes.proofs.Doing.{Does, next_refused, is_accepted, roomy_after, unchanging_or_not, doing, moves, after_is, call_is, side, others, pasts, writes, unchanging_row, next_unchanging, retakes}

-- ---- Laws that the steps cite.

-- A row that restarts is made from its own words alone.
row_restarts : (s : Setup) (row a b : List ℕ) → word_for restart row ≡ 1 → row_by s row a ≡ row_by s row b
unfolding row_by row_from start_of
row_restarts s row a b e = rw (eq-eqb (word_for restart row) 1 e)

-- Two ways to say the rows and the words before them, alike up to the end, stop alike.
first_alike : (n : ℕ) (rows rows' : List ℕ) (old new old' new' : ℕ → List ℕ) (low j : ℕ) → ((i : ℕ) → i < n → row_at rows' i ≡ row_at rows i)
    → ((i : ℕ) → low ≤ i → i ≤ n → old i ≡ old' i) → ((i : ℕ) → i ≤ n → new i ≡ new' i) → First n rows old new low j → First n rows' old' new' low j
first_alike n rows rows' old new old' new' low j r p q f =
    record {
      least = f.least;
      most = f.most;
      stops = there (cases_lt j n) f.stops;
      smallest = λ i a b x. f.smallest i a b (back i a (omega (arith, f.most)) x);
    }
  where
    there : (j < n) ⊎ (n ≤ j) → Stop n rows old new j → Stop n rows' old' new' j
    there (inr l) x = inl (omega (arith, f.most))
    there (inl l) (inl x) = inl x
    there (inl l) (inr (inl x)) = inr (inl (ap (λ (row : List ℕ). word_for restart row) (r j l) ∙ x))
    there (inl l) (inr (inr x)) = inr (inr (sym (p j f.least f.most) ∙ x ∙ q j f.most))

    back : (i : ℕ) → low ≤ i → i < n → Stop n rows' old' new' i → Stop n rows old new i
    back i a l (inl x) = inl x
    back i a l (inr (inl x)) = inr (inl (ap (λ (row : List ℕ). word_for restart row) (sym (r i l)) ∙ x))
    back i a l (inr (inr x)) = inr (inr (p i a (omega arith) ∙ x ∙ sym (q i (omega arith))))

-- ---- A take that stands.

-- The lent words hold the rows, and every row below the count stands as made.
pub record Stands (s : Setup) (o : Reel) : Type 0 where
  pub room : Roomy s o.count o.rows o.left
  pub made : (i : ℕ) → i < o.count → Made s o.rows o.left i

begins_fresh : (s : Setup) (o : Reel) → Stands s o → cut s o.count o.left ≡ take_of (fresh_of s o)
begins_fresh s o f = cut_fresh s o.rows o.count o.left f.room f.made ∙ ap take_of (sym (fresh_cut s o.count o.rows))

-- What an accepted call leaves, where it stands, is what it is to leave.
is_afresh : (s : Setup) (o : Reel) (c : Call) (u : Take) → Moved s o.count o.rows o.left c
    → Stands s (reel (count_after o.count c) (rows_after o.count o.rows c) u) → Past s.frames (count_after o.count c) o.left u
    → reel (count_after o.count c) (rows_after o.count o.rows c) u ≡ afresh s o c
unfolding afresh
is_afresh s o c u m f p =
    let n = count_after o.count c in
    let rows = rows_after o.count o.rows c in
    let fresh-is : fresh s n rows ≡ fresh s n (score_with (score_of o) c) = sym (fresh_cut s n rows) ∙ ap (λ (x : List ℕ). fresh s n x) m.score in
    let left : u ≡ laid_over o.left (take_of (fresh s n rows)) = laid_fresh s rows n u f.room f.made o.left p in
    ap (λ (x : Take). reel n rows x) (left ∙ ap (λ (x : List Row). laid_over o.left (take_of x)) fresh-is)
    ∙ ap (λ (x : List ℕ). reel n x (laid_over o.left (take_of (fresh s n (score_with (score_of o) c))))) (score_laid s o.count o.rows o.left c m)

-- ---- Whole rendering, of any take.

pub five : Five Render
unfolding Five
five = tt

module _ (s : Setup) (o : Reel) (z : refusal_in s o Render ≡ accepted) where
  pub unchanged_not : Unchanging o Render → ⊥
  unfolding Unchanging
  unchanged_not v = v

  abbrev did : Does s o.count o.rows o.left Render
  did = doing s o Render z five unchanged_not

  pub all_rows : did.did.stop ≡ o.count
  unfolding count_after lowest_stop
  all_rows = let f = did.did.first in omega (arith, f.least, f.most)

  rendered_made : (i : ℕ) → i < o.count → Made s o.rows did.run.left i
  unfolding count_after rows_after position
  rendered_made i h = did.did.made i (omega arith) (omega (arith, all_rows))

  pub rendered_stands : Stands s (next s o Render)
  unfolding count_after rows_after
  rendered_stands =
      let d = did in
      rw (after_is s o Render z five unchanged_not)
      (record { room = roomy_after s o.count o.rows o.left Render (moves s o Render z five unchanged_not) d.run d.did; made = rendered_made })

  rendered_afresh : next s o Render ≡ afresh s o Render
  rendered_afresh =
      after_is s o Render z five unchanged_not
      ∙ is_afresh s o Render did.run.left (moves s o Render z five unchanged_not) (rw (after_is s o Render z five unchanged_not) at rendered_stands) (pasts s o Render z five unchanged_not)

  rendered_report : (called s o Render).answer ≡ Ok (record { rows = o.count; holds = holds_of (fresh_of s o) })
  unfolding count_after rows_after position
  rendered_report =
      let n = o.count in
      let u = did.run.left in
      let long : length (fresh s n o.rows) ≡ n = fresh_long s o.rows n 0 _ in
      let f : take n (fresh s n o.rows) ≡ fresh s n o.rows = take_all n (fresh s n o.rows) (omega arith) in
      let e : did.did.stop - 0 ≡ n = omega (arith, all_rows) in
      let h : did.run.report.holds ≡ holds_of (fresh_of s o) =
      did.did.holds
      ∙ ap (λ (l : ℕ). holds_of (made_from s o.rows u.kept l 0)) e
      ∙ ap holds_of (rows_fresh s o.rows n u rendered_made n 0 (omega arith) ∙ f ∙ sym (fresh_cut s n o.rows)) in
      ap (λ (x : Outcome). x.answer) (call_is s o Render z five unchanged_not)
      ∙ ap Ok (ap (λ (x : ℕ). record { rows = x; holds = did.run.report.holds }) (did.did.count ∙ e) ∙ ap (λ (x : Holds). record { rows = n; holds = x }) h)

-- ---- A call on a take that stands.

-- What is shown of it: it is right, what it leaves is what it is to leave, and the take stands again.
record Step (s : Setup) (o : Reel) (c : Call) : Type 0 where
  is_right : Right s o c (FreshRetaken s o c)
  is : next s o c ≡ cond (accepts s o c) (afresh s o c) o
  stands : Stands s (next s o c)

module _ (s : Setup) (o : Reel) (c : Call) (five : Five c) (f : Stands s o) where
  step_refused : (r : Refusal) → refusal_in s o c ≡ Err r → Step s o c
  step_refused r h =
      let q = next_refused s o c r h in
      record {
        is_right = record { refuses = (retakes s o c five).refuses; unchanged = λ z _. cc; changed = λ z _. cc };
        is = q ∙ sym (rw h);
        stands = rw q f;
      }

  module _ (z : refusal_in s o c ≡ accepted) where
    taken : cond (accepts s o c) (afresh s o c) o ≡ afresh s o c
    taken = rw z

    step_unchanged : Unchanging o c → Step s o c
    step_unchanged w =
        let q = next_unchanging s o c five w z in
        let e = unchanging_row s o c five w in
        let m = moved s o.count o.rows o.left c five (is_accepted s o c z) in
        record {
          is_right = record { refuses = (retakes s o c five).refuses; unchanged = (retakes s o c five).unchanged; changed = λ _ h. absurd (h w) };
          is = q ∙ e ∙ is_afresh s o c (moved_by s o.count o.left c) m (subst (λ (x : Reel). Stands s x) e f) m.past ∙ sym taken;
          stands = rw q f;
        }

    module _ (w : Unchanging o c → ⊥) where
      abbrev n' : ℕ
      n' = count_after o.count c

      abbrev rows' : List ℕ
      rows' = rows_after o.count o.rows c

      abbrev D : Does s o.count o.rows o.left c
      D = doing s o c z five w

      abbrev u : Take
      u = D.run.left

      abbrev j : ℕ
      j = D.did.stop

      m : Moved s o.count o.rows o.left c
      m = moves s o c z five w

      -- A row that is not rendered, and starts as it started where it came from, stands as it stood.
      still : (i : ℕ) → i < n' → (x : (i < position c) ⊎ (j ≤ i))
          → row_by s (row_at rows' i) (words_before s u.kept i) ≡ row_by s (row_at rows' i) (words_before s o.left.kept (came c i)) → Made s rows' u i
      still i h x b =
          others s o c z five w i x h
          ∙ f.made (came c i) (m.within i (side s o c z five w i x) h)
          ∙ ap (λ (r : Row). r.words)
          (ap (λ (row : List ℕ). row_by s row (words_before s o.left.kept (came c i))) (sym (m.row i (side s o c z five w i x) h)) ∙ sym b)

      by_words : (i : ℕ) → words_before s u.kept i ≡ words_before s o.left.kept (came c i)
          → row_by s (row_at rows' i) (words_before s u.kept i) ≡ row_by s (row_at rows' i) (words_before s o.left.kept (came c i))
      by_words i e = ap (λ (b : List ℕ). row_by s (row_at rows' i) b) e

      early : (i : ℕ) → i < n' → i < position c → Made s rows' u i
      early i h l =
          still i h (inl l)
          (by_words i
          (before_same s rows' o.left u i
          (λ k q.
          let x : k < position c = omega arith in
          others s o c z five w k (inl x) (omega arith) ∙ ap (λ (y : ℕ). words_at s.frames o.left y) (m.front k x))
          ∙ ap (λ (y : ℕ). words_before s o.left.kept y) (sym (m.front i l))))

      -- The words before a row behind the stop are those of the row before it, which is behind it too or the last of them.
      late_words : (i : ℕ) → i < n' → j < i → words_before s u.kept i ≡ words_before s o.left.kept (came c i)
      late_words zero h l = absurd (omega arith)
      late_words (suc i) h l =
          let x : j ≤ i = omega arith in
          next_words (came c i) (ap (λ (t : Take). t.kept) (others s o c z five w i (inr x) (omega arith)))
          ∙ ap (λ (y : ℕ). words_before s o.left.kept y) (sym (m.behind i (omega (arith, D.did.first.least))))
        where
          next_words : (y : ℕ) → kept_at u.kept i ≡ kept_at o.left.kept y → words_before s u.kept (suc i) ≡ words_before s o.left.kept (suc y)
          next_words y e = unfold before_row in e

      late : (i : ℕ) → i < n' → (j ≡ i) ⊎ (j < i) → Made s rows' u i
      late i h (inr l) = still i h (inr (omega arith)) (by_words i (late_words i h l))
      late i h (inl q) = still i h (inr (omega arith)) (subst Same q (by D.did.first.stops))
        where
          Same : ℕ → Type 0
          Same k = row_by s (row_at rows' k) (words_before s u.kept k) ≡ row_by s (row_at rows' k) (words_before s o.left.kept (came c k))

          by : Stop n' rows' (λ (k : ℕ). words_before s o.left.kept (came c k)) (words_before s u.kept) j → Same j
          by (inl x) = absurd (omega arith)
          by (inr (inl x)) = row_restarts s (row_at rows' j) _ _ x
          by (inr (inr x)) = by_words j (sym x)

      made : (i : ℕ) → i < n' → Made s rows' u i
      made i h = go (cases_lt i (position c)) (cases_lt i j)
        where
          go : (i < position c) ⊎ (position c ≤ i) → (i < j) ⊎ (j ≤ i) → Made s rows' u i
          go (inl x) y = early i h x
          go (inr x) (inl y) = D.did.made i x y
          go (inr x) (inr y) = late i h (eq-or-lt_of_le y)

      stands_again : Stands s (reel n' rows' u)
      stands_again = record { room = roomy_after s o.count o.rows o.left c m D.run D.did; made = made }

      retaken : FreshRetaken s o c
      retaken =
          let q = after_is s o c z five w in
          let g = fresh_cut s n' rows' in
          let l : position c + (j - position c) ≤ n' = omega (arith, D.did.since, D.did.first.most) in
          let h : D.run.report.holds ≡ holds_of (rows_from (fresh s n' (take (n' * row_words) rows')) (position c) j) =
          D.did.holds ∙ ap holds_of (rows_fresh s rows' n' u made (j - position c) (position c) l) ∙ ap (λ (x : List Row). holds_of (rows_from x (position c) j)) (sym g) in
          record {
            stop = j;
            first =
                rw q
                (first_alike n' rows' (take (n' * row_words) rows') _ _ _ _ (lowest_stop o.count c) j (λ i a. part_of_cut row_words n' i rows' a)
                (λ i a b.
                before_fresh s o.rows o.count o.left f.made (came c i) (m.reach i a b)
                ∙ ap (λ (x : List Row). before_in s x (came c i)) (sym (fresh_cut s o.count o.rows)))
                (λ i a. before_fresh s rows' n' u made i a ∙ ap (λ (x : List Row). before_in s x i) (sym g)) D.did.first);
            writes = writes s o c z five w _ (h ∙ rw q refl);
          }

      step_changed : Step s o c
      step_changed =
          let q = after_is s o c z five w in
          record {
            is_right = record { refuses = (retakes s o c five).refuses; unchanged = λ _ x. absurd (w x); changed = λ _ _. retaken };
            is = q ∙ is_afresh s o c u m stands_again (pasts s o c z five w) ∙ sym taken;
            stands = rw q stands_again;
          }

  step : Step s o c
  step = go (refusal_in s o c) refl
    where
      go : (r : Tested) → refusal_in s o c ≡ r → Step s o c
      go (Err r) h = step_refused r h
      go (Ok u) z = by (unchanging_or_not s o c)
        where
          by : Unchanging o c ⊎ (Unchanging o c → ⊥) → Step s o c
          by (inl w) = step_unchanged z w
          by (inr w) = step_changed z w

-- ---- A list of calls.

record Listed (s : Setup) (o : Reel) (cs : List Call) : Type 0 where
  is : after s o cs ≡ expected s o cs
  stands : Stands s (after s o cs)
  each : EachRight s o cs

listed : (s : Setup) (cs : List Call) → Fives cs → (o : Reel) → Stands s o → Listed s o cs
unfolding after expected EachRight Fives
listed s [] fives o f = record { is = refl; stands = f; each = tt }
listed s (c ∷ cs) fives o f =
    let p : Step s o c = step s o c fives.0 f in
    let q : Listed s (next s o c) cs = listed s cs fives.1 (next s o c) p.stands in
    record { is = q.is ∙ ap (λ (x : Reel). expected s x cs) p.is; stands = q.stands; each = (p.is_right, q.each) }

-- ---- The claim.

-- A rendering that is not refused was accepted.
pub accepted_is : (s : Setup) (o : Reel) → claim.Accepted s o → refusal_in s o Render ≡ accepted
unfolding call_of
accepted_is s o e = go (refusal_in s o Render) e
  where
    go : (r : Tested) → IsOk (tested r (done_of s o.count o.rows o.left Render) o.rows o.left).answer → r ≡ accepted
    go (Ok u) q = refl
    go (Err r) q = cc

pub demand_3 : Demand3
unfolding after expected
demand_3 s o cs fives e =
    let z = accepted_is s o e in
    let q : Listed s (next s o Render) cs = listed s cs fives (next s o Render) (rendered_stands s o z) in
    let first : next s o Render ≡ cond (accepts s o Render) (afresh s o Render) o = rendered_afresh s o z ∙ sym (rw z) in
    record {
      all = q.is ∙ ap (λ (x : Reel). expected s x cs) first;
      below = begins_fresh s (after s (next s o Render) cs) q.stands;
      rendered = rendered_report s o z;
      each = q.each;
    }
