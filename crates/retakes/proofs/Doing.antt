-- A call on any take, `Retakes`: by the law of runs over the take with its places moved, with the stop's three reasons read off its test.
use Rattle.std.proofs.Common.{◌≡◌, refl, sym, ap, ◌∙◌, subst, List, Bool, true, false, ◌||◌, true≢false, ◌⊎◌, inl, inr, ℕ, ◌+◌, ◌-◌, ◌*◌, ◌≤◌, ◌<◌, le_refl, arith, eq-eqb, eqb-true, le-ltb, eqb, length, Ok, Err}
use Rattle.lists.specs.Lists.{same}
use Rattle.lists.proofs.Copying.{same_eq, same_refl}
use Rattle.std.proofs.lemmas.Bool.{cases_lt, false_from_ne_true}
use Rattle.lists.proofs.Places.{Outside, put_same}
use Rattle.lists.proofs.Shifts.{past}
use Rattle.utils.specs.Holds.{total}
use Rattle.utils.specs.declared.holds.Holds.{Holds}
use Rattle.voice.specs.Voice.{kept_count}
use Rattle.score.specs.Rows.{row_words, word_for, restart, row_at, restarts, remove_row}
use Rattle.score.specs.Numbers.{accepted}
use Rattle.score.specs.declared.refusal.Refusal.{Refusal}
use Rattle.rows.specs.Rows.{Setup, Take, row_in, words_before, Run, idle, stops_of, run_of}
use Rattle.rows.proofs.Ending.{not_the_end}
use Rattle.refusals.specs.declared.Call.{Call}
use Rattle.refusals.specs.declared.Call.TheVariants.{Render, Edit, Insert, Remove}
use Rattle.refusals.specs.Calls.{count_after, rows_after, position}
use Rattle.refusals.proofs.Accepted.{Accepted}
use Rattle.refusals.proofs.Accepted as known
use Rattle.take.specs.Take.{Outcome, refused_by, ran, moved_by, stretch_end, renders_nothing, done_of, call_of}
use Rattle.take.proofs.Calls.{render_holding, edit_retakable, insert_insertable, remove_removable}
use Rattle.retakes.specs.Retakes.{
  Reel,
  reel,
  refusal_in,
  called,
  next,
  Five,
  came,
  lowest_stop,
  Stop,
  First,
  Writes,
  Unchanging,
  words_at,
  Past,
  made_from,
  holds_of,
  Retaken,
  Retakes,
}
use Rattle.runs.specs.Inner.{SameLengths}
use Rattle.retakes.proofs.Takes.{Roomy, roomy_still, Elsewhere, words_elsewhere}
use Rattle.retakes.proofs.Runs.{before_same, Ran, run_ran}
use Rattle.retakes.proofs.Moves.{Moved, score_laid, moved}

-- ---- The stop's reasons.

module _ (n : ℕ) (rows : List ℕ) (old new : ℕ → List ℕ) (j : ℕ) where
  -- The test that says so has one of the three reasons.
  pub stop_why : stops_of n rows j (same (old j) (new j)) ≡ true → Stop n rows old new j
  unfolding stops_of
  stop_why = go (eqb j n) (restarts (row_at rows j)) (same (old j) (new j)) (eqb-true j n) (eqb-true (word_for restart (row_at rows j)) 1) (same_eq (old j) (new j))
    where
      go : (x y z : Bool) → (x ≡ true → j ≡ n) → (y ≡ true → word_for restart (row_at rows j) ≡ 1) → (z ≡ true → old j ≡ new j)
          → x || (y || z) ≡ true → Stop n rows old new j
      go true y z f g h q = inl (f refl)
      go false true z f g h q = inr (inl (g refl))
      go false false z f g h q = inr (inr (h q))

  -- The test that says no has none of them.
  pub stop_not : stops_of n rows j (same (old j) (new j)) ≡ false → Stop n rows old new j → ⊥
  unfolding stops_of
  stop_not e (inl q) = true≢false (sym (rw (eq-eqb j n q)) ∙ e)
  stop_not e (inr (inl q)) = true≢false (sym (rw (eq-eqb (word_for restart (row_at rows j)) 1 q) (or_true (eqb j n) (same (old j) (new j)))) ∙ e)
    where
      or_true : (x z : Bool) → x || (true || z) ≡ true
      or_true true z = refl
      or_true false z = refl
  stop_not e (inr (inr q)) = true≢false (sym (rw (q, same_refl (new j)) (or_last (eqb j n) (restarts (row_at rows j)))) ∙ e)
    where
      or_last : (x y : Bool) → x || (y || true) ≡ true
      or_last true y = refl
      or_last false true = refl
      or_last false false = refl

differs : (xs ys : List ℕ) → (xs ≡ ys → ⊥) → same xs ys ≡ false
differs xs ys h = false_from_ne_true (same xs ys) (λ e. h (same_eq xs ys e))

-- ---- What an accepted call does.

module _ (s : Setup) (n : ℕ) (rows : List ℕ) (t : Take) (c : Call) where
  abbrev n' : ℕ
  n' = count_after n c

  abbrev rows' : List ℕ
  rows' = rows_after n rows c

  abbrev t' : Take
  t' = moved_by s n t c

  -- The words before row j where it came from.
  abbrev old : ℕ → List ℕ
  old j = words_before s t.kept (came c j)

  abbrev run : Run
  run = run_of s rows' n' n' (position c) (stretch_end n c) t'

  -- Rows from the call's position to before the stop are made, and no other is written.
  pub record Did (r : Run) : Type 0 where
    pub stop : ℕ
    pub first : First n' rows' old (words_before s r.left.kept) (lowest_stop n c) stop
    pub since : position c ≤ stop
    pub count : r.report.rows ≡ stop - position c
    pub made : (i : ℕ) → position c ≤ i → i < stop → words_at s.frames r.left i ≡ (row_in s rows' r.left.kept i).words
    pub holds : r.report.holds ≡ holds_of (made_from s rows' r.left.kept (stop - position c) (position c))
    pub elsewhere : Elsewhere s.frames (position c) stop t' r.left
    pub lengths : SameLengths t' r.left

  -- A call that runs: before the row at which its stop is first asked it could not have stopped.
  record Runs : Type 0 where
    starts : position c < stretch_end n c
    ends : stretch_end n c ≤ n'
    low : lowest_stop n c ≤ stretch_end n c
    skips : (u : Take) → ((i : ℕ) → i < position c → words_at s.frames u i ≡ words_at s.frames t' i)
        → (i : ℕ) → lowest_stop n c ≤ i → i < stretch_end n c → Stop n' rows' old (words_before s u.kept) i → ⊥

  did_run : Moved s n rows t c → Runs → Did run
  did_run m q =
      let d : Ran s rows' n' (position c) (stretch_end n c) t' run =
      run_ran s rows' n' n' (position c) (stretch_end n c) t' q.starts q.ends (omega arith) m.room in
      let u = run.left in
      let j = position c + run.report.rows in
      let rows_are : run.report.rows ≡ j - position c = omega arith in
      let was : (i : ℕ) → stretch_end n c ≤ i → i ≤ n' → words_before s t'.kept i ≡ old i = λ i x y. m.before i (omega (arith, q.starts)) (omega (arith, q.low)) y in
      let asks : (i : ℕ) → stretch_end n c ≤ i → i ≤ n' → stops_of n' rows' i (same (words_before s t'.kept i) (words_before s u.kept i)) ≡ stops_of n' rows' i (same (old i) (words_before s u.kept i)) =
      λ i x y. ap (λ (w : List ℕ). stops_of n' rows' i (same w (words_before s u.kept i))) (was i x y) in
      record {
        stop = j;
        first = record {
          least = omega (arith, d.least, q.low);
          most = d.most;
          stops = stop_why n' rows' old (words_before s u.kept) j (sym (asks j d.least d.most) ∙ d.stops);
          smallest = λ i x y. smallest d asks i x y (cases_lt i (stretch_end n c));
        };
        since = omega arith;
        count = rows_are;
        made = d.made;
        holds = d.holds ∙ ap (λ (l : ℕ). holds_of (made_from s rows' u.kept l (position c))) rows_are;
        elsewhere = d.elsewhere;
        lengths = d.lengths;
      }
    where
      smallest : Ran s rows' n' (position c) (stretch_end n c) t' run
          → ((i : ℕ) → stretch_end n c ≤ i → i ≤ n' → stops_of n' rows' i (same (words_before s t'.kept i) (words_before s run.left.kept i)) ≡ stops_of n' rows' i (same (old i) (words_before s run.left.kept i)))
          → (i : ℕ) → lowest_stop n c ≤ i → i < position c + run.report.rows → (i < stretch_end n c) ⊎ (stretch_end n c ≤ i) → Stop n' rows' old (words_before s run.left.kept) i → ⊥
      smallest d asks i x y (inr l) = stop_not n' rows' old (words_before s run.left.kept) i (sym (asks i l (omega (arith, d.most))) ∙ d.smallest i l y)
      smallest d asks i x y (inl l) = q.skips run.left (λ k z. words_elsewhere s.frames (position c) (position c + run.report.rows) t' run.left d.elsewhere k (inl z)) i x l

  -- The take that it leaves is as long.
  pub roomy_after : Moved s n rows t c → (r : Run) → Did r → Roomy s n' rows' r.left
  roomy_after m r d = roomy_still s n' rows' t' r.left d.lengths m.room

  done_runs : renders_nothing s n rows t c ≡ false → done_of s n rows t c ≡ ran rows' run
  unfolding done_of
  done_runs w = rw w

  done_idles : renders_nothing s n rows t c ≡ true → done_of s n rows t c ≡ ran rows' (idle t')
  unfolding done_of
  done_idles w = rw w

  -- What is done, as a run.
  pub record Does : Type 0 where
    pub run : Run
    pub is : done_of s n rows t c ≡ ran rows' run
    pub did : Did run

-- ---- Each call.

module _ (s : Setup) (n : ℕ) (rows : List ℕ) (t : Take) where
  render_does : Accepted s n rows t Render → Does s n rows t Render
  unfolding Five count_after position stretch_end lowest_stop renders_nothing
  render_does a =
      record {
        run = run s n rows t Render;
        is = done_runs s n rows t Render refl;
        did =
            did_run s n rows t Render (moved s n rows t Render tt a)
            (record { starts = (render_holding s n rows t a).0; ends = le_refl n; low = le_refl n; skips = λ u f i x y. absurd (omega arith) });
      }

  edit_does : (k : ℕ) (row : List ℕ) → length row ≡ row_words → (row_at rows k ≡ row → ⊥) → Accepted s n rows t (Edit k row) → Does s n rows t (Edit k row)
  unfolding Five count_after position stretch_end lowest_stop renders_nothing
  edit_does k row five w a =
      record {
        run = run s n rows t (Edit k row);
        is = done_runs s n rows t (Edit k row) (differs (row_at rows k) row w);
        did =
            did_run s n rows t (Edit k row) (moved s n rows t (Edit k row) five a)
            (record {
              starts = omega arith;
              ends = omega (arith, (edit_retakable s n rows t k row a).below);
              low = le_refl (k + 1);
              skips = λ u f i x y. absurd (omega arith);
            });
      }

  insert_does : (p : ℕ) (row : List ℕ) → length row ≡ row_words → Accepted s n rows t (Insert p row) → Does s n rows t (Insert p row)
  unfolding Five count_after position stretch_end lowest_stop renders_nothing
  insert_does p row five a =
      record {
        run = run s n rows t (Insert p row);
        is = done_runs s n rows t (Insert p row) refl;
        did =
            did_run s n rows t (Insert p row) (moved s n rows t (Insert p row) five a)
            (record {
              starts = omega arith;
              ends = omega (arith, (insert_insertable s n rows t p row a).positioned);
              low = le_refl (p + 1);
              skips = λ u f i x y. absurd (omega arith);
            });
      }

  -- ---- A removal: before the row now there stand the words that stood before the removed one; where it came from, those behind it.

  module _ (p : ℕ) (a : Accepted s n rows t (Remove p)) where
    abbrev C : Call
    C = Remove p

    m : Moved s n rows t C
    unfolding Five
    m = moved s n rows t C tt a

    old_here : old s n rows t C p ≡ words_before s t.kept (p + 1)
    unfolding came
    old_here = rw (le-ltb p p (le_refl p))

    new_here : (u : Take) → ((i : ℕ) → i < p → words_at s.frames u i ≡ words_at s.frames (t' s n rows t C) i) → words_before s u.kept p ≡ words_before s t.kept p
    unfolding position
    new_here u f =
        before_same s rows t u p
        (λ j q.
        let l : j < p = omega arith in
        f j l ∙ m.words j (inl l) (omega (arith, m.starts)) ∙ ap (λ (i : ℕ). words_at s.frames t i) (m.front j l))

    asked : (u : Take) → ((i : ℕ) → i < p → words_at s.frames u i ≡ words_at s.frames (t' s n rows t C) i)
        → stops_of (n - 1) (remove_row n rows p) p (same (old s n rows t C p) (words_before s u.kept p)) ≡ renders_nothing s n rows t C
    unfolding renders_nothing
    asked u f = rw (old_here, new_here u f)

    idles : renders_nothing s n rows t C ≡ true → Does s n rows t C
    unfolding count_after rows_after position lowest_stop made_from total
    idles w =
        let u = t' s n rows t C in
        record {
          run = idle u;
          is = done_idles s n rows t C w;
          did = record {
            stop = p;
            first = record {
              least = le_refl p;
              most = m.starts;
              stops = stop_why (n - 1) (remove_row n rows p) (old s n rows t C) (words_before s u.kept) p (asked u (λ i l. refl) ∙ w);
              smallest = λ i x y. absurd (omega arith);
            };
            since = le_refl p;
            count = omega arith;
            made = λ i x y. absurd (omega arith);
            holds = let z : p - p ≡ 0 = omega arith in rw z refl;
            elsewhere = record { out = nothing_outside; aux = nothing_outside; kept = nothing_outside };
            lengths = record { out_long = refl; aux_long = refl; kept_long = refl };
          };
        }
      where
        nothing_outside : {w : ℕ} {l : List ℕ} → Outside w p p l l
        nothing_outside = record { before = refl; behind = refl }

    runs : renders_nothing s n rows t C ≡ false → Does s n rows t C
    unfolding count_after rows_after position stretch_end lowest_stop
    runs w =
        record {
          run = run s n rows t C;
          is = done_runs s n rows t C w;
          did = did_run s n rows t C m (record { starts = omega arith; ends = ends; low = omega arith; skips = skips });
        }
      where
        ends : p + 1 ≤ n - 1
        ends = omega (arith, (remove_removable s n rows t p a).below, not_the_end (n - 1) (remove_row n rows p) p _ (asked (t' s n rows t C) (λ i l. refl) ∙ w))

        skips : (u : Take) → ((i : ℕ) → i < p → words_at s.frames u i ≡ words_at s.frames (t' s n rows t C) i)
            → (i : ℕ) → p ≤ i → i < p + 1 → Stop (n - 1) (remove_row n rows p) (old s n rows t C) (words_before s u.kept) i → ⊥
        skips u f i x y =
            let q : p ≡ i = omega arith in
            subst (λ (j : ℕ). Stop (n - 1) (remove_row n rows p) (old s n rows t C) (words_before s u.kept) j → ⊥) q
            (stop_not (n - 1) (remove_row n rows p) (old s n rows t C) (words_before s u.kept) p (asked u f ∙ w))

    remove_does : Does s n rows t C
    remove_does = go (renders_nothing s n rows t C) refl
      where
        go : (b : Bool) → renders_nothing s n rows t C ≡ b → Does s n rows t C
        go true w = idles w
        go false w = runs w

-- ---- Every call.

-- An edit changes words, or it does not.
pub unchanging_or_not : (s : Setup) (o : Reel) (c : Call) → Unchanging o c ⊎ (Unchanging o c → ⊥)
unfolding Unchanging
unchanging_or_not s o Render = inr (λ v. v)
unchanging_or_not s o (Edit k row) = go (same (row_at o.rows k) row) refl
  where
    go : (b : Bool) → same (row_at o.rows k) row ≡ b → (row_at o.rows k ≡ row) ⊎ (row_at o.rows k ≡ row → ⊥)
    go true e = inl (same_eq (row_at o.rows k) row e)
    go false e = inr (λ w. true≢false (sym (rw w (same_refl row)) ∙ e))
unchanging_or_not s o (Insert p row) = inr (λ v. v)
unchanging_or_not s o (Remove p) = inr (λ v. v)

does : (s : Setup) (o : Reel) (c : Call) → Five c → (Unchanging o c → ⊥) → Accepted s o.count o.rows o.left c → Does s o.count o.rows o.left c
unfolding Five Unchanging
does s o Render five w a = render_does s o.count o.rows o.left a
does s o (Edit k row) five w a = edit_does s o.count o.rows o.left k row five w a
does s o (Insert p row) five w a = insert_does s o.count o.rows o.left p row five a
does s o (Remove p) five w a = remove_does s o.count o.rows o.left p a

module _ (s : Setup) (o : Reel) (c : Call) where
  -- ---- Refused.

  module _ (r : Refusal) (h : refusal_in s o c ≡ Err r) where
    refused_is : called s o c ≡ refused_by r o.rows o.left
    unfolding call_of
    refused_is = rw h

    pub next_refused : next s o c ≡ o
    unfolding next
    next_refused = rw refused_is

  -- ---- Accepted.

  module _ (z : refusal_in s o c ≡ accepted) where
    pub is_accepted : Accepted s o.count o.rows o.left c
    is_accepted = known.accepted s o.count o.rows o.left c z

    called_is : (x : Run) → done_of s o.count o.rows o.left c ≡ ran (rows_after o.count o.rows c) x
        → called s o c ≡ ran (rows_after o.count o.rows c) x
    unfolding call_of
    called_is x q = rw z q

    next_is : (x : Run) → called s o c ≡ ran (rows_after o.count o.rows c) x
        → next s o c ≡ reel (count_after o.count c) (rows_after o.count o.rows c) x.left
    unfolding next
    next_is x q = rw q

    module _ (five : Five c) (w : Unchanging o c → ⊥) where
      pub doing : Does s o.count o.rows o.left c
      doing = does s o c five w is_accepted

      pub moves : Moved s o.count o.rows o.left c
      moves = moved s o.count o.rows o.left c five is_accepted

      pub call_is : called s o c ≡ ran (rows_after o.count o.rows c) doing.run
      call_is = called_is doing.run doing.is

      pub after_is : next s o c ≡ reel (count_after o.count c) (rows_after o.count o.rows c) doing.run.left
      after_is = next_is doing.run call_is

      -- A row that is not rendered lies before the call's position, or from its lowest stop on.
      pub side : (i : ℕ) → (i < position c) ⊎ (doing.did.stop ≤ i) → (i < position c) ⊎ (lowest_stop o.count c ≤ i)
      side i (inl x) = inl x
      side i (inr x) = inr (omega (arith, doing.did.first.least))

      pub others : (i : ℕ) → (i < position c) ⊎ (doing.did.stop ≤ i) → i < count_after o.count c
          → words_at s.frames doing.run.left i ≡ words_at s.frames o.left (came c i)
      others i x l = words_elsewhere s.frames (position c) doing.did.stop _ doing.run.left doing.did.elsewhere i x ∙ moves.words i (side i x) l

      pub pasts : Past s.frames (count_after o.count c) o.left doing.run.left
      pasts =
          let e = doing.did.elsewhere in
          let h = doing.did.first.most in
          record {
            out = past s.frames (position c) doing.did.stop (count_after o.count c) _ _ h e.out ∙ moves.past.out;
            aux = past s.frames (position c) doing.did.stop (count_after o.count c) _ _ h e.aux ∙ moves.past.aux;
            kept = past kept_count (position c) doing.did.stop (count_after o.count c) _ _ h e.kept ∙ moves.past.kept;
          }

      pub writes : (holds : Holds) → doing.run.report.holds ≡ holds → Writes s o c doing.did.stop holds
      writes holds q =
          record {
            reports =
                ap (λ (x : Outcome). x.answer) call_is
                ∙ ap Ok
                (ap (λ (x : ℕ). record { rows = x; holds = doing.run.report.holds }) doing.did.count
                ∙ ap (λ (x : Holds). record { rows = doing.did.stop - position c; holds = x }) q);
            count = ap (λ (x : Reel). x.count) after_is;
            rows = ap (λ (x : Reel). x.rows) after_is ∙ score_laid s o.count o.rows o.left c moves;
            others = rw after_is others;
            past = rw after_is pasts;
          }

      retaken : Retaken s o c
      retaken =
          record {
            stop = doing.did.stop;
            first = rw after_is doing.did.first;
            made = rw after_is doing.did.made;
            writes = writes _ (doing.did.holds ∙ rw after_is refl);
          }

-- ---- An edit that changes no word.

-- The score after it is the one before it.
pub unchanging_row : (s : Setup) (o : Reel) (c : Call) → Five c → Unchanging o c
    → o ≡ reel (count_after o.count c) (rows_after o.count o.rows c) (moved_by s o.count o.left c)
unfolding Five Unchanging count_after rows_after moved_by
unchanging_row s o Render five w = absurd w
unchanging_row s o (Edit k row) five w = ap (λ (x : List ℕ). reel o.count x o.left) (sym (put_same o.rows row (k * row_words) row_words five w))
unchanging_row s o (Insert p row) five w = absurd w
unchanging_row s o (Remove p) five w = absurd w

module _ (s : Setup) (o : Reel) (c : Call) (five : Five c) (w : Unchanging o c) (z : refusal_in s o c ≡ accepted) where
  nothing_to_do : (c : Call) → Unchanging o c → renders_nothing s o.count o.rows o.left c ≡ true
  unfolding Unchanging renders_nothing
  nothing_to_do Render v = absurd v
  nothing_to_do (Edit k row) v = rw v (same_refl row)
  nothing_to_do (Insert p row) v = absurd v
  nothing_to_do (Remove p) v = absurd v

  unchanging_is : called s o c ≡ ran o.rows (idle o.left)
  unchanging_is =
      called_is s o c z _ (done_idles s o.count o.rows o.left c (nothing_to_do c w)) ∙ ap (λ (x : Reel). ran x.rows (idle x.left)) (sym (unchanging_row s o c five w))

  pub next_unchanging : next s o c ≡ o
  next_unchanging = next_is s o c z _ (called_is s o c z _ (done_idles s o.count o.rows o.left c (nothing_to_do c w))) ∙ sym (unchanging_row s o c five w)

pub retakes : Retakes
retakes s o c five =
    record {
      refuses = λ r h. (ap (λ (x : Outcome). x.answer) (refused_is s o c r h), next_refused s o c r h);
      unchanged = λ z w. (ap (λ (x : Outcome). x.answer) (unchanging_is s o c five w z), next_unchanging s o c five w z);
      changed = λ z w. retaken s o c z five w;
    }
