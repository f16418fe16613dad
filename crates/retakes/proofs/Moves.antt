-- What each accepted call makes of the rows and of the take before anything is rendered: every row but its own is as it was, where it came from.
use Rattle.std.proofs.Common.{◌≡◌, refl, sym, ap, ◌∙◌, List, ◌⊎◌, inl, inr, ℕ, zero, suc, ◌+◌, ◌-◌, ◌*◌, ◌≤◌, ◌<◌, mul-le-mul_right, arith, lt-ltb, le-ltb, length, take, drop, length-drop, length-take-le}
use Rattle.lists.specs.Lists.{put}
use Rattle.std.proofs.lemmas.Bool.{cases_lt}
use Rattle.lists.proofs.Places.{Outside, part_end, part_outside, put_outside, put_long}
use Rattle.lists.proofs.Shifts.{
  past,
  cut_put,
  cut_insert,
  cut_remove,
  up_long,
  up_below,
  up_above,
  up_outside,
  insert_long,
  insert_below,
  insert_here,
  insert_above,
  insert_past,
  down_long,
  down_below,
  down_above,
  down_outside,
  laid_is,
}
use Rattle.voice.specs.Voice.{kept_count}
use Rattle.voice.proofs.Laws as voice
use Rattle.score.specs.Rows.{row_words, row_at, put_row, insert_row, remove_row}
use Rattle.rows.specs.Rows.{Setup, Take, fresh_start, kept_at, before_row, words_before, room_at, closed_at}
use Rattle.runs.specs.Inner.{Holding}
use Rattle.refusals.specs.declared.Call.{Call}
use Rattle.refusals.specs.declared.Call.TheVariants.{Render, Edit, Insert, Remove}
use Rattle.refusals.specs.Calls.{count_after, rows_after, position}
use Rattle.refusals.proofs.Accepted.{Accepted}
use Rattle.take.specs.Take.{moved_by}
use Rattle.take.proofs.Calls.{render_holding, edit_retakable, insert_insertable, remove_removable}
use Rattle.retakes.specs.Retakes.{Five, score_with, came, lowest_stop, words_at, Past}
use Rattle.retakes.proofs.Takes.{Roomy}

pub record Moved (s : Setup) (n : ℕ) (rows : List ℕ) (t : Take) (c : Call) : Type 0 where
  pub starts : position c ≤ count_after n c
  pub room : Roomy s (count_after n c) (rows_after n rows c) (moved_by s n t c)
  pub score : take (count_after n c * row_words) (rows_after n rows c) ≡ score_with (take (n * row_words) rows) c
  pub score_past : drop (count_after n c * row_words) (rows_after n rows c) ≡ drop (count_after n c * row_words) rows
  pub row : (i : ℕ) → (i < position c) ⊎ (lowest_stop n c ≤ i) → i < count_after n c → row_at (rows_after n rows c) i ≡ row_at rows (came c i)
  pub words : (i : ℕ) → (i < position c) ⊎ (lowest_stop n c ≤ i) → i < count_after n c → words_at s.frames (moved_by s n t c) i ≡ words_at s.frames t (came c i)
  pub before : (j : ℕ) → position c < j → lowest_stop n c ≤ j → j ≤ count_after n c → words_before s (moved_by s n t c).kept j ≡ words_before s t.kept (came c j)
  pub front : (i : ℕ) → i < position c → came c i ≡ i
  pub behind : (i : ℕ) → lowest_stop n c ≤ i → came c (suc i) ≡ suc (came c i)
  pub within : (i : ℕ) → (i < position c) ⊎ (lowest_stop n c ≤ i) → i < count_after n c → came c i < n
  pub reach : (i : ℕ) → lowest_stop n c ≤ i → i ≤ count_after n c → came c i ≤ n
  pub past : Past s.frames (count_after n c) t (moved_by s n t c)

roomy : (s : Setup) (n : ℕ) (rows : List ℕ) (t : Take) → Holding s.frames n rows t → Roomy s n rows t
roomy s n rows t h = record { rows_room = h.rows_room; out_room = h.out_room; aux_room = h.aux_room; kept_room = h.kept_room }

nothing_past : (frames n : ℕ) (t : Take) → Past frames n t t
nothing_past frames n t = record { out = refl; aux = refl; kept = refl }

-- The row words have the call's score laid over them.
pub score_laid : (s : Setup) (n : ℕ) (rows : List ℕ) (t : Take) (c : Call) → Moved s n rows t c → rows_after n rows c ≡ put rows 0 (score_with (take (n * row_words) rows) c)
score_laid s n rows t c m = laid_is (count_after n c * row_words) rows (rows_after n rows c) _ m.room.rows_room m.score m.score_past

-- ---- Whole rendering moves nothing.

moved_render : (s : Setup) (n : ℕ) (rows : List ℕ) (t : Take) → Accepted s n rows t Render → Moved s n rows t Render
unfolding count_after rows_after moved_by came lowest_stop position score_with
moved_render s n rows t a =
    let h = (render_holding s n rows t a).1 in
    record {
      starts = omega arith;
      room = roomy s n rows t h;
      score = refl;
      score_past = refl;
      row = λ i o l. refl;
      words = λ i o l. refl;
      before = λ j a b l. refl;
      front = λ i l. refl;
      behind = λ i l. refl;
      within = λ i o l. l;
      reach = λ i x l. l;
      past = nothing_past s.frames n t;
    }

-- ---- An edit puts its row in its place.

moved_edit : (s : Setup) (n : ℕ) (rows : List ℕ) (t : Take) (k : ℕ) (row : List ℕ) → length row ≡ row_words → Accepted s n rows t (Edit k row) → Moved s n rows t (Edit k row)
unfolding count_after rows_after moved_by came lowest_stop position score_with
moved_edit s n rows t k row five a =
    let r = edit_retakable s n rows t k row a in
    let h = r.holding in
    let fits : k * row_words + row_words ≤ length rows = omega (arith, r.below, h.rows_room) in
    let long : length (put_row rows k row) ≡ length rows = put_long row_words k rows row fits five in
    let o : Outside row_words k (k + 1) rows (put_row rows k row) = put_outside row_words k rows row fits five in
    record {
      starts = omega (arith, r.below);
      room = record { rows_room = omega (arith, h.rows_room); out_room = h.out_room; aux_room = h.aux_room; kept_room = h.kept_room };
      score = cut_put rows row (k * row_words) (n * row_words) (omega (arith, r.below)) h.rows_room;
      score_past = past row_words k (k + 1) n rows (put_row rows k row) (omega (arith, r.below)) o;
      row = λ i x l. part_outside row_words k (k + 1) rows (put_row rows k row) o i x;
      words = λ i x l. refl;
      before = λ j x y l. refl;
      front = λ i l. refl;
      behind = λ i l. refl;
      within = λ i x l. l;
      reach = λ i x l. l;
      past = nothing_past s.frames n t;
    }

-- ---- An insertion makes a place.

module _ (p : ℕ) (row : List ℕ) where
  stays_below : (i : ℕ) → i ≤ p → came (Insert p row) i ≡ i
  unfolding came
  stays_below i h = rw (le-ltb p i h)

  was_below : (i : ℕ) → p < i → came (Insert p row) i ≡ i - 1
  unfolding came
  was_below i h = rw (lt-ltb p i h)

module _ (s : Setup) (n : ℕ) (rows : List ℕ) (t : Take) (p : ℕ) (row : List ℕ) (five : length row ≡ row_words) (a : Accepted s n rows t (Insert p row)) where
  abbrev C : Call
  C = Insert p row

  abbrev made : Take
  made = room_at s.frames (fresh_start s) n t p

  h : Holding s.frames (n + 1) rows t
  h = (insert_insertable s n rows t p row a).holding

  at_most : p ≤ n
  at_most = (insert_insertable s n rows t p row a).positioned

  -- The words that stand in the new place are 13.
  before_long : length (words_before s t.kept p) ≡ kept_count
  before_long = go p refl
    where
      go : (i : ℕ) → i ≡ p → length (words_before s t.kept i) ≡ kept_count
      go zero e = unfold before_row in voice.kept_long (fresh_start s)
      go (suc i) e =
          let f = part_end i (n + 1) kept_count (omega (arith, at_most)) in
          unfold before_row in length-take-le kept_count (drop (i * kept_count) t.kept) (rw length-drop (omega (arith, f, h.kept_room)))

  row_by : (i : ℕ) → (i < p) ⊎ (p + 1 ≤ i) → i < n + 1 → row_at (insert_row n rows p row) i ≡ row_at rows (came C i)
  row_by i (inl l) m = insert_below row_words rows p n row at_most h.rows_room five i l ∙ ap (λ (j : ℕ). row_at rows j) (sym (stays_below p row i (omega arith)))
  row_by i (inr l) m = insert_above row_words rows p n row at_most h.rows_room five i l m ∙ ap (λ (j : ℕ). row_at rows j) (sym (was_below p row i (omega arith)))

  words_by : (i : ℕ) → (i < p) ⊎ (p + 1 ≤ i) → i < n + 1 → words_at s.frames made i ≡ words_at s.frames t (came C i)
  words_by i (inl l) m =
      rw (
        up_below s.frames t.out p n at_most h.out_room i (omega arith),
        up_below s.frames t.aux p n at_most h.aux_room i (omega arith),
        insert_below kept_count t.kept p n (words_before s t.kept p) at_most h.kept_room before_long i l,
        stays_below p row i (omega arith),
      )
  words_by i (inr l) m =
      rw (
        up_above s.frames t.out p n at_most h.out_room i l m,
        up_above s.frames t.aux p n at_most h.aux_room i l m,
        insert_above kept_count t.kept p n (words_before s t.kept p) at_most h.kept_room before_long i l m,
        was_below p row i (omega arith),
      )

  -- Before the row behind the new one stand the words that stood before it; before a later one those of the row before it.
  before_by : (j : ℕ) → p < j → j ≤ n + 1 → words_before s made.kept j ≡ words_before s t.kept (came C j)
  before_by j l m = go j l m (cases_lt (p + 1) j)
    where
      here : words_before s made.kept (suc p) ≡ words_before s t.kept p
      here = unfold before_row in insert_here kept_count t.kept p n (words_before s t.kept p) at_most h.kept_room before_long

      go : (j : ℕ) → p < j → j ≤ n + 1 → (p + 1 < j) ⊎ (j ≤ p + 1) → words_before s made.kept j ≡ words_before s t.kept (came C j)
      go j l m (inr x) =
          let e : j ≡ suc p = omega arith in
          let f : came C j ≡ p = was_below p row j l ∙ omega arith in
          ap (λ (i : ℕ). words_before s made.kept i) e ∙ here ∙ ap (λ (i : ℕ). words_before s t.kept i) (sym f)
      go zero l m (inl x) = absurd (omega arith)
      go (suc zero) l m (inl x) = absurd (omega arith)
      go (suc (suc i)) l m (inl x) =
          let f : came C (suc (suc i)) ≡ suc i = was_below p row (suc (suc i)) l ∙ omega arith in
          let q : suc i - 1 ≡ i = omega arith in
          later i (insert_above kept_count t.kept p n (words_before s t.kept p) at_most h.kept_room before_long (suc i) (omega arith) (omega arith) ∙ ap (λ (y : ℕ). kept_at t.kept y) q)
          ∙ ap (λ (y : ℕ). words_before s t.kept y) (sym f)
        where
          later : (i : ℕ) → kept_at made.kept (suc i) ≡ kept_at t.kept i → words_before s made.kept (suc (suc i)) ≡ words_before s t.kept (suc i)
          later i e = unfold before_row in e

  moved_insert : Moved s n rows t C
  unfolding count_after rows_after moved_by lowest_stop position score_with
  moved_insert =
      let long : length (insert_row n rows p row) ≡ length rows = insert_long row_words rows p n row at_most h.rows_room five in
      record {
        starts = omega (arith, at_most);
        room = record {
          rows_room = omega (arith, long, h.rows_room);
          out_room = omega (arith, up_long s.frames t.out p n at_most h.out_room, h.out_room);
          aux_room = omega (arith, up_long s.frames t.aux p n at_most h.aux_room, h.aux_room);
          kept_room = omega (arith, insert_long kept_count t.kept p n (words_before s t.kept p) at_most h.kept_room before_long, h.kept_room);
        };
        score = cut_insert row_words rows p n row at_most h.rows_room five;
        score_past = insert_past row_words rows p n row at_most h.rows_room five;
        row = row_by;
        words = words_by;
        before = λ j x y l. before_by j x l;
        front = λ i l. stays_below p row i (omega arith);
        behind = λ i l. was_below p row (suc i) (omega arith) ∙ omega (arith, was_below p row i (omega arith));
        within = λ i o l. inside i l o;
        reach = λ i x l. omega (arith, was_below p row i (omega arith));
        past = record {
          out = (up_outside s.frames t.out p n at_most h.out_room).behind;
          aux = (up_outside s.frames t.aux p n at_most h.aux_room).behind;
          kept = insert_past kept_count t.kept p n (words_before s t.kept p) at_most h.kept_room before_long;
        };
      }
    where
      inside : (i : ℕ) → i < n + 1 → (i < p) ⊎ (p + 1 ≤ i) → came C i < n
      inside i l (inl x) = omega (arith, stays_below p row i (omega arith), at_most)
      inside i l (inr x) = omega (arith, was_below p row i (omega arith))

-- ---- A removal closes one.

module _ (p : ℕ) where
  stays : (i : ℕ) → i < p → came (Remove p) i ≡ i
  unfolding came
  stays i h = rw (lt-ltb i p h)

  was_above : (i : ℕ) → p ≤ i → came (Remove p) i ≡ i + 1
  unfolding came
  was_above i h = rw (le-ltb i p h)

module _ (s : Setup) (n : ℕ) (rows : List ℕ) (t : Take) (p : ℕ) (a : Accepted s n rows t (Remove p)) where
  abbrev closed : Take
  closed = closed_at s.frames n t p

  full : Holding s.frames n rows t
  full = (remove_removable s n rows t p a).holding

  below : p < n
  below = (remove_removable s n rows t p a).below

  down_row : (i : ℕ) → (i < p) ⊎ (p ≤ i) → i < n - 1 → row_at (remove_row n rows p) i ≡ row_at rows (came (Remove p) i)
  down_row i (inl l) m = down_below row_words rows p n below full.rows_room i l ∙ ap (λ (j : ℕ). row_at rows j) (sym (stays p i l))
  down_row i (inr l) m = down_above row_words rows p n below full.rows_room i l m ∙ ap (λ (j : ℕ). row_at rows j) (sym (was_above p i l))

  down_words : (i : ℕ) → (i < p) ⊎ (p ≤ i) → i < n - 1 → words_at s.frames closed i ≡ words_at s.frames t (came (Remove p) i)
  down_words i (inl l) m =
      rw (
        down_below s.frames t.out p n below full.out_room i l,
        down_below s.frames t.aux p n below full.aux_room i l,
        down_below kept_count t.kept p n below full.kept_room i l,
        stays p i l,
      )
  down_words i (inr l) m =
      rw (
        down_above s.frames t.out p n below full.out_room i l m,
        down_above s.frames t.aux p n below full.aux_room i l m,
        down_above kept_count t.kept p n below full.kept_room i l m,
        was_above p i l,
      )

  down_before : (j : ℕ) → p < j → j ≤ n - 1 → words_before s closed.kept j ≡ words_before s t.kept (came (Remove p) j)
  down_before zero l m = absurd (omega arith)
  down_before (suc i) l m =
      let f : came (Remove p) (suc i) ≡ suc (i + 1) = was_above p (suc i) (omega arith) ∙ omega arith in
      later (down_above kept_count t.kept p n below full.kept_room i (omega arith) (omega arith)) ∙ ap (λ (y : ℕ). words_before s t.kept y) (sym f)
    where
      later : kept_at closed.kept i ≡ kept_at t.kept (i + 1) → words_before s closed.kept (suc i) ≡ words_before s t.kept (suc (i + 1))
      later e = unfold before_row in e

  moved_remove : Moved s n rows t (Remove p)
  unfolding count_after rows_after moved_by lowest_stop position score_with
  moved_remove =
      let m : n - 1 ≤ n = omega arith in
      let f = mul-le-mul_right s.frames m in
      let long : length (remove_row n rows p) ≡ length rows = down_long row_words rows p n below full.rows_room in
      record {
        starts = omega (arith, below);
        room = record {
          rows_room = omega (arith, long, full.rows_room);
          out_room = omega (arith, f, down_long s.frames t.out p n below full.out_room, full.out_room);
          aux_room = omega (arith, f, down_long s.frames t.aux p n below full.aux_room, full.aux_room);
          kept_room = omega (arith, down_long kept_count t.kept p n below full.kept_room, full.kept_room);
        };
        score = cut_remove row_words rows p n below full.rows_room;
        score_past = (down_outside row_words rows p n below full.rows_room).behind;
        row = down_row;
        words = down_words;
        before = λ j x y l. down_before j x l;
        front = stays p;
        behind = λ i l. was_above p (suc i) (omega arith) ∙ omega (arith, was_above p i l);
        within = λ i o l. inside i l o;
        reach = λ i x l. omega (arith, was_above p i x, below);
        past = record {
          out = (down_outside s.frames t.out p n below full.out_room).behind;
          aux = (down_outside s.frames t.aux p n below full.aux_room).behind;
          kept = (down_outside kept_count t.kept p n below full.kept_room).behind;
        };
      }
    where
      inside : (i : ℕ) → i < n - 1 → (i < p) ⊎ (p ≤ i) → came (Remove p) i < n
      inside i l (inl x) = omega (arith, stays p i x)
      inside i l (inr x) = omega (arith, was_above p i x)

-- ---- Every call.

pub moved : (s : Setup) (n : ℕ) (rows : List ℕ) (t : Take) (c : Call) → Five c → Accepted s n rows t c → Moved s n rows t c
unfolding Five
moved s n rows t Render five a = moved_render s n rows t a
moved s n rows t (Edit k row) five a = moved_edit s n rows t k row five a
moved s n rows t (Insert p row) five a = moved_insert s n rows t p row five a
moved s n rows t (Remove p) five a = moved_remove s n rows t p a
