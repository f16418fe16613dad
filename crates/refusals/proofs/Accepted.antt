-- The refusals: what holds of the lengths where none of 1 to 7 is refused, and what is known of an accepted call.
use Rattle.std.proofs.Common.{◌≡◌, refl, ℕ, ◌+◌, ◌*◌, ◌≤◌, ◌<◌, List, Bool, true, false, cond, not, ◌⊎◌, inl, inr, eqb, ltb, length, Ok, Err, arith, true≢false, eqb-true, ltb-true, ltb-false, lt-ltb}
use Rattle.std.specs.Result.{result_and}
use Rattle.utils.specs.Rendered.{most_frames}
use Rattle.oscillator.specs.Bank.{bank_length}
use Rattle.terrain.specs.Heights.{map_length}
use Rattle.voice.specs.Voice.{Lent, map_instrument, kept_count}
use Rattle.score.specs.declared.refusal.Refusal.{Refusal}
use Rattle.score.specs.declared.refusal.Refusal.TheVariants as refusal
use Rattle.score.specs.Rows.{row_words, wrong_rows}
use Rattle.lists.proofs.Cases.{neither}
use Rattle.score.proofs.RowsRight.{rows_right}
use Rattle.score.specs.Limits.{limit_refusal}
use Rattle.score.specs.Numbers.{Tested, accepted as nothing_refused}
use Rattle.rows.specs.Rows.{Setup, Take}
use Rattle.refusals.specs.declared.Call.{Call}
use Rattle.refusals.specs.declared.Call.TheVariants.{Render, Edit, Insert, Remove}
use Rattle.refusals.specs.Calls.{count_after, rows_after, position, least_count, largest_count}
use Rattle.refusals.specs.Refusals.{
  map_length_of,
  wrong_instrument,
  wrong_rate,
  wrong_block,
  wrong_bank,
  wrong_map,
  short_take,
  wrong_position,
  no_spare,
  full,
  settings_refusal,
  lengths_refusal,
  score_refusal,
  refusal_of,
}

-- ---- Nothing is refused: no test holds.

passed : (b : Bool) (r : Refusal) (x : Tested) → cond b (Err r) x ≡ nothing_refused → (b ≡ false) × (x ≡ nothing_refused)
passed true r x e = cc
passed false r x e = (refl, e)

-- 8 lets a position through.
pub right_position : (n : ℕ) (c : Call) → cond (wrong_position n c) (Err (refusal.Position (position c))) nothing_refused ≡ nothing_refused → wrong_position n c ≡ false
right_position n c e = (passed (wrong_position n c) (refusal.Position (position c)) nothing_refused e).0

both_pass : (a b : Tested) → result_and a b ≡ nothing_refused → (a ≡ nothing_refused) × (b ≡ nothing_refused)
both_pass (Ok u) b e = (refl, e)
both_pass (Err r) b e = cc

not_not : (b : Bool) → not b ≡ false → b ≡ true
not_not true e = refl
not_not false e = absurd (true≢false e)

pub record SettingsRight (instrument frames bank map : ℕ) : Type 0 where
  pub frames_most : frames ≤ most_frames
  pub bank_long : bank ≡ bank_length
  pub map_long : map ≡ map_length_of instrument

pub settings_right : (s : Setup) → settings_refusal s ≡ nothing_refused → SettingsRight s.instrument s.frames (length s.bank) (length s.map)
unfolding settings_refusal
settings_right s e =
    let a = passed (wrong_instrument s.instrument) refusal.Instrument _ e in
    let b = passed (wrong_rate s.rate) refusal.Rate _ a.1 in
    let c = passed (wrong_block s.frames) refusal.Block _ b.1 in
    let d = passed (wrong_bank (length s.bank)) refusal.Bank _ c.1 in
    let f = passed (wrong_map s.instrument (length s.map)) refusal.Map _ d.1 in
    let g = neither (eqb s.frames 0) (ltb most_frames s.frames) c.0 in
    record {
      frames_most = ltb-false most_frames s.frames g.1;
      bank_long = eqb-true (length s.bank) bank_length (not_not _ d.0);
      map_long = eqb-true (length s.map) (map_length_of s.instrument) (not_not _ f.0);
    }

-- A take holds n rows.
pub record TakeRight (n frames out aux kept : ℕ) : Type 0 where
  pub out_room : n * frames ≤ out
  pub aux_room : n * frames ≤ aux
  pub kept_room : n * kept_count ≤ kept

take_right : (n frames out aux kept : ℕ) → short_take n frames out aux kept ≡ false → TakeRight n frames out aux kept
take_right n frames out aux kept e =
    let a = neither _ _ e in
    let b = neither _ _ a.1 in
    record {
      out_room = ltb-false out (n * frames) a.0;
      aux_room = ltb-false aux (n * frames) b.0;
      kept_room = ltb-false kept (n * kept_count) b.1;
    }

pub record LengthsRight (least largest frames n rows out aux kept : ℕ) : Type 0 where
  pub count_least : least ≤ n
  pub count_most : n ≤ largest
  pub rows_room : n * row_words ≤ rows
  pub take_room : TakeRight n frames out aux kept

pub lengths_right : (s : Setup) (n : ℕ) (rows : List ℕ) (t : Take) (c : Call) → lengths_refusal s n rows t c ≡ nothing_refused
    → LengthsRight (least_count c) (largest_count c) s.frames n (length rows) (length t.out) (length t.aux) (length t.kept)
unfolding lengths_refusal
lengths_right s n rows t c e =
    let a = passed (wrong_rows (least_count c) (largest_count c) n (length rows)) refusal.Rows _ e in
    let b = passed (short_take n s.frames (length t.out) (length t.aux) (length t.kept)) refusal.Take _ a.1 in
    let r = rows_right (least_count c) (largest_count c) n (length rows) a.0 in
    record {
      count_least = r.count_least;
      count_most = r.count_most;
      rows_room = r.rows_room;
      take_room = take_right n s.frames (length t.out) (length t.aux) (length t.kept) b.0;
    }

-- ---- What a run may count on.

pub record Usable (s : Setup) (least largest n : ℕ) (rows : List ℕ) (t : Take) : Type 0 where
  pub tables : Lent s.bank s.map
  pub frames_most : s.frames ≤ most_frames
  pub fit : LengthsRight least largest s.frames n (length rows) (length t.out) (length t.aux) (length t.kept)

map_lengths : (i m : ℕ) → m ≡ map_length_of i → (m ≡ 0) ⊎ (m ≡ map_length)
map_lengths i m e = go (eqb i map_instrument) e
  where
    go : (b : Bool) → m ≡ cond b map_length 0 → (m ≡ 0) ⊎ (m ≡ map_length)
    go true q = inr q
    go false q = inl q

pub usable : (s : Setup) (n : ℕ) (rows : List ℕ) (t : Take) (c : Call) → settings_refusal s ≡ nothing_refused → lengths_refusal s n rows t c ≡ nothing_refused
    → Usable s (least_count c) (largest_count c) n rows t
usable s n rows t c e f =
    let a = settings_right s e in
    record {
      tables = record { bank_long = a.bank_long; map_long = map_lengths s.instrument (length s.map) a.map_long };
      frames_most = a.frames_most;
      fit = lengths_right s n rows t c f;
    }

pub below : (k n : ℕ) → k < n → not (ltb k n) ≡ false
below k n h = rw (lt-ltb k n h)

pub is_below : (k n : ℕ) → not (ltb k n) ≡ false → k < n
is_below k n e = ltb-true k n (not_not (ltb k n) e)

-- ---- An accepted call.

pub record Accepted (s : Setup) (n : ℕ) (rows : List ℕ) (t : Take) (c : Call) : Type 0 where
  pub lent_right : Usable s (least_count c) (largest_count c) n rows t
  pub positioned : wrong_position n c ≡ false
  pub spare : full s n rows t c ≡ false
  pub within : limit_refusal (count_after n c) (rows_after n rows c) ≡ nothing_refused

pub accepted : (s : Setup) (n : ℕ) (rows : List ℕ) (t : Take) (c : Call) → refusal_of s n rows t c ≡ nothing_refused → Accepted s n rows t c
unfolding refusal_of score_refusal
accepted s n rows t c e =
    let a = both_pass (settings_refusal s) _ e in
    let b = both_pass (lengths_refusal s n rows t c) _ a.1 in
    let d = passed (wrong_position n c) (refusal.Position (position c)) _ b.1 in
    let f = passed (full s n rows t c) refusal.Full _ d.1 in
    record { lent_right = usable s n rows t c a.0 b.0; positioned = d.0; spare = f.0; within = f.1 }

-- The spare place that an accepted insertion has.
pub record SpareRight (n frames rows out aux kept : ℕ) : Type 0 where
  pub rows_room : (n + 1) * row_words ≤ rows
  pub take_room : TakeRight (n + 1) frames out aux kept

pub spare_right : (n frames rows out aux kept : ℕ) → no_spare n frames rows out aux kept ≡ false → SpareRight n frames rows out aux kept
spare_right n frames rows out aux kept e =
    let a = neither _ _ e in
    record { rows_room = ltb-false rows ((n + 1) * row_words) a.0; take_room = take_right (n + 1) frames out aux kept a.1 }

-- The rows that a call leaves fit into the lent words.
pub room_after : (s : Setup) (n : ℕ) (rows : List ℕ) (t : Take) (c : Call) → n * row_words ≤ length rows → full s n rows t c ≡ false → count_after n c * row_words ≤ length rows
unfolding count_after full
room_after s n rows t Render h e = h
room_after s n rows t (Edit k row) h e = h
room_after s n rows t (Insert p row) h e = (spare_right n s.frames (length rows) (length t.out) (length t.aux) (length t.kept) e).rows_room
room_after s n rows t (Remove p) h e = omega arith
