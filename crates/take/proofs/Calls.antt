-- The calls by their tests: a refusal, nothing to do, or a run.
use Rattle.std.proofs.Common.{◌≡◌, sym, ap, ◌∙◌, List, Bool, true, false, ℕ, ◌+◌, ◌-◌, ◌*◌, ◌≤◌, ◌<◌, length, Ok, Err, mul-le-mul_right, arith, ltb-false}
use Rattle.lists.specs.Lists.{same}
use Rattle.lists.proofs.Copying.{same_eq}
use Rattle.lists.proofs.Places.{put_same}
use Rattle.score.specs.declared.refusal.Refusal.{Refusal}
use Rattle.score.specs.Numbers.{accepted}
use Rattle.score.specs.Rows.{row_words, row_at, put_row, insert_row, remove_row}
use Rattle.rows.specs.declared.Report.{Report}
use Rattle.rows.specs.Rows.{Setup, Take, fresh_start, words_before, room_at, closed_at, Run, nothing, reported, idle, stops_of, run_of}
use Rattle.runs.specs.Inner.{Holding, SameLengths}
use Rattle.refusals.specs.declared.Call.{Call}
use Rattle.refusals.specs.declared.Call.TheVariants.{Render, Edit, Insert, Remove}
use Rattle.refusals.specs.Calls.{count_after, rows_after, position, least_count, largest_count}
use Rattle.refusals.specs.Refusals.{wrong_position, full, refusal_of}
use Rattle.take.specs.Take.{outcome, ran, moved_by, stretch_end, renders_nothing, done_of, call_of}
use Rattle.take.specs.Inner.{Retakable, Insertable, Removable}
use Rattle.refusals.proofs.Accepted.{Usable, Accepted, is_below, spare_right}

-- ---- A call: refused, or done.

module _ (s : Setup) (n : ℕ) (rows : List ℕ) (t : Take) (c : Call) where
  pub answers_refused : (r : Refusal) → refusal_of s n rows t c ≡ Err r → outcome (Err r) rows t ≡ call_of s n rows t c
  unfolding call_of
  answers_refused r e = rw e

  pub answers_done : refusal_of s n rows t c ≡ accepted → (p : Report) (new : List ℕ) (left : Take) → ran new (reported p left) ≡ done_of s n rows t c
      → outcome (Ok p) new left ≡ call_of s n rows t c
  unfolding call_of
  answers_done e p new left q = q ∙ rw e

-- ---- What an accepted call may count on.

holding : (s : Setup) (least largest n : ℕ) (rows : List ℕ) (t : Take) → largest ≤ 4096 → Usable s least largest n rows t → Holding s.frames n rows t
holding s least largest n rows t m u =
    let b = u.fit in
    record {
      frames_most = u.frames_most;
      rows_most = omega (arith, b.count_most);
      rows_room = b.rows_room;
      out_room = b.take_room.out_room;
      aux_room = b.take_room.aux_room;
      kept_room = b.take_room.kept_room;
    }

module _ (s : Setup) (n : ℕ) (rows : List ℕ) (t : Take) where
  pub render_holding : Accepted s n rows t Render → (0 < n) × Holding s.frames n rows t
  unfolding least_count largest_count
  render_holding a = (a.lent_right.fit.count_least, holding s 1 4096 n rows t (omega arith) a.lent_right)

  pub edit_retakable : (k : ℕ) (row : List ℕ) → Accepted s n rows t (Edit k row) → Retakable s.frames n k rows t
  unfolding least_count largest_count wrong_position
  edit_retakable k row a = record { below = is_below k n a.positioned; holding = holding s 1 4096 n rows t (omega arith) a.lent_right }

  pub insert_insertable : (p : ℕ) (row : List ℕ) → Accepted s n rows t (Insert p row) → Insertable s.frames n p rows t
  unfolding least_count largest_count wrong_position full
  insert_insertable p row a =
      let u = a.lent_right in
      let r = spare_right n s.frames (length rows) (length t.out) (length t.aux) (length t.kept) a.spare in
      record {
        positioned = ltb-false n p a.positioned;
        few = omega (arith, u.fit.count_most);
        holding = record {
          frames_most = u.frames_most;
          rows_most = omega (arith, u.fit.count_most);
          rows_room = r.rows_room;
          out_room = r.take_room.out_room;
          aux_room = r.take_room.aux_room;
          kept_room = r.take_room.kept_room;
        };
      }

  pub remove_removable : (p : ℕ) → Accepted s n rows t (Remove p) → Removable s.frames n p rows t
  unfolding least_count largest_count wrong_position
  remove_removable p a =
      record { some = a.lent_right.fit.count_least; below = is_below p n a.positioned; holding = holding s 2 4096 n rows t (omega arith) a.lent_right }

-- ---- What a call does.

-- Lent words of the same lengths hold the rows too.
pub holding_still : (frames n : ℕ) (rows rows' : List ℕ) (t t' : Take) → length rows' ≡ length rows → SameLengths t t' → Holding frames n rows t → Holding frames n rows' t'
holding_still frames n rows rows' t t' e l h =
    record {
      frames_most = h.frames_most;
      rows_most = h.rows_most;
      rows_room = omega (arith, h.rows_room);
      out_room = omega (arith, h.out_room, l.out_long);
      aux_room = omega (arith, h.aux_room, l.aux_long);
      kept_room = omega (arith, h.kept_room, l.kept_long);
    }

-- So are fewer rows.
pub fewer_holding : (frames n : ℕ) (rows : List ℕ) (t : Take) → Holding frames n rows t → Holding frames (n - 1) rows t
fewer_holding frames n rows t h =
    let m : n - 1 ≤ n = omega arith in
    let f = mul-le-mul_right frames m in
    record {
      frames_most = h.frames_most;
      rows_most = omega (arith, h.rows_most);
      rows_room = omega (arith, h.rows_room);
      out_room = omega (arith, f, h.out_room);
      aux_room = omega (arith, f, h.aux_room);
      kept_room = omega (arith, h.kept_room);
    }

module _ (s : Setup) (n : ℕ) (rows : List ℕ) (t : Take) where
  pub render_does : (p : Report) (left : Take) → reported p left ≡ run_of s rows n n 0 n t → ran rows (reported p left) ≡ done_of s n rows t Render
  unfolding done_of count_after rows_after moved_by renders_nothing position stretch_end
  render_does p left q = ap (λ (x : Run). ran rows x) q

  module _ (k : ℕ) (row : List ℕ) where
    -- Equal words: nothing is written.
    pub edit_idles : length row ≡ row_words → (p : Report) → same (row_at rows k) row ≡ true → p ≡ nothing → ran rows (reported p t) ≡ done_of s n rows t (Edit k row)
    unfolding done_of count_after rows_after moved_by renders_nothing position stretch_end
    edit_idles five p w e =
        ap (λ (x : Report). ran rows (reported x t)) e
        ∙ ap (λ (x : List ℕ). ran x (idle t)) (sym (put_same rows row (k * row_words) row_words five (same_eq (row_at rows k) row w)))
        ∙ rw w

    pub edit_does : (p : Report) (new : List ℕ) (left : Take) → same (row_at rows k) row ≡ false → new ≡ put_row rows k row
        → reported p left ≡ run_of s new n n k (k + 1) t → ran new (reported p left) ≡ done_of s n rows t (Edit k row)
    unfolding done_of count_after rows_after moved_by renders_nothing position stretch_end
    edit_does p new left w e q = rw e (ap (λ (x : Run). ran (put_row rows k row) x) (rw e at q) ∙ rw w)

  module _ (p : ℕ) (row : List ℕ) where
    pub insert_does : (r : Report) (new : List ℕ) (moved left : Take) → new ≡ insert_row n rows p row → moved ≡ room_at s.frames (fresh_start s) n t p
        → reported r left ≡ run_of s new (n + 1) (n + 1) p (p + 1) moved → ran new (reported r left) ≡ done_of s n rows t (Insert p row)
    unfolding done_of count_after rows_after moved_by renders_nothing position stretch_end
    insert_does r new moved left e m q = rw e (ap (λ (x : Run). ran (insert_row n rows p row) x) (rw (e, m) at q))

  module _ (p : ℕ) (unchanged : Bool) (b : unchanged ≡ same (words_before s t.kept (p + 1)) (words_before s t.kept p)) (new : List ℕ) (e : new ≡ remove_row n rows p)
      (moved : Take) (m : moved ≡ closed_at s.frames n t p) where
    stop_is : (x : Bool) → x ≡ stops_of (n - 1) new p unchanged → renders_nothing s n rows t (Remove p) ≡ x
    unfolding renders_nothing
    stop_is x q = sym (q ∙ rw (e, b))

    pub remove_idles : (x : Bool) → x ≡ stops_of (n - 1) new p unchanged → x ≡ true → (r : Report) → r ≡ nothing
        → ran new (reported r moved) ≡ done_of s n rows t (Remove p)
    unfolding done_of count_after rows_after moved_by position stretch_end
    remove_idles x q y r z = rw (z, e, m, stop_is x q, y)

    pub remove_does : (x : Bool) → x ≡ stops_of (n - 1) new p unchanged → x ≡ false → (r : Report) (left : Take)
        → reported r left ≡ run_of s new (n - 1) (n - 1) p (p + 1) moved → ran new (reported r left) ≡ done_of s n rows t (Remove p)
    unfolding done_of count_after rows_after moved_by position stretch_end
    remove_does x q y r left z = rw (e, stop_is x q, y) (ap (λ (w : Run). ran (remove_row n rows p) w) (rw (e, m) at z))
