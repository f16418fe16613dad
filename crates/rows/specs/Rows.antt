-- Document 01, "Rows, states, retakes", and document 02: a row made from the 13 words kept before it, its words put into a take, places moved, and
-- runs of rows.
use Rattle.std.specs.Prelude.{ℕ, ◌≡◌, zero, suc, ◌+◌, ◌*◌, List, Bool, cond, ◌||◌, eqb, ℤ, get_or, Float}
use Rattle.std.specs.Float.{binary32}
use Rattle.std.specs.Float.Ieee.{of_bits}
use Rattle.lists.specs.Lists.{part, put, shift_up, shift_down, same}
use Rattle.utils.specs.Units.{a0_of}
use Rattle.utils.specs.Holds.{none, plus}
use Rattle.utils.specs.declared.holds.Holds.{Holds}
use Rattle.utils.specs.declared.engine.EngineParameters.{EngineParameters}
use Rattle.score.specs.Rows.{place, note, timbre, morph, harmonics, row_at, restarts}
use Rattle.voice.specs.declared.State.{State}
use Rattle.voice.specs.Voice.{kept_count, voice_of, fresh_state, kept_words, state_of, rendered}
use Rattle.rows.specs.declared.Settings.{Settings}
use Rattle.rows.specs.declared.Patch.{Patch}
use Rattle.rows.specs.declared.Take.{Take as LentTake}
use Rattle.rows.specs.declared.Report.{Report}

-- ---- What the calls are lent.

-- "instrument, rate, frames, bank and map"
pub record Setup : Type 0 where
  pub instrument : ℕ
  pub rate : ℕ
  pub frames : ℕ
  pub bank : List ℤ
  pub map : List ℕ

abbrev pub setup : Settings → List ℤ → List ℕ → Setup
setup q bank map = record { instrument = q.instrument; rate = q.rate; frames = q.frames; bank = bank; map = map }

abbrev pub setup_by : Patch → Setup
setup_by p = setup p.settings p.bank.now p.map.now

-- "A take is out, aux and kept."
pub record Take : Type 0 where
  pub out : List ℕ
  pub aux : List ℕ
  pub kept : List ℕ

abbrev pub lent : List ℕ → List ℕ → List ℕ → Take
lent out aux kept = record { out = out; aux = aux; kept = kept }

-- The words that a take lends.
abbrev pub words_of : LentTake → Take
words_of t = lent t.out.now t.aux.now t.kept.now

-- A take lends the same places after a call as before.
pub record SamePlaces (t t' : LentTake) : Type 0 where
  pub out_is : t'.out.ghost_name ≡ t.out.ghost_name
  pub aux_is : t'.aux.ghost_name ≡ t.aux.ghost_name
  pub kept_is : t'.kept.ghost_name ≡ t.kept.ghost_name

-- ---- One row.

-- The fresh state, with which "row 0, and each row with restart 1, begins".
abbrev pub fresh_by : Settings → State
fresh_by q = fresh_state (voice_of q.instrument) (a0_of q.rate)

abbrev pub fresh_start : Setup → State
fresh_start s = fresh_state (voice_of s.instrument) (a0_of s.rate)

-- The words kept after row i: "Kept after each row, 13 words."
abbrev pub kept_at : List ℕ → ℕ → List ℕ
kept_at kept i = part kept_count kept i

-- The words of the state before row i: those kept after the row before it, and at row 0 those of the fresh state.
unfoldable pub before_row : State → List ℕ → ℕ → List ℕ
before_row fresh kept zero = kept_words fresh
before_row fresh kept (suc i) = kept_at kept i

abbrev pub words_before : Setup → List ℕ → ℕ → List ℕ
words_before s kept i = before_row (fresh_start s) kept i

-- The float of a row's word.
abbrev pub float_at : List ℕ → ℕ → Float
float_at row i = of_bits binary32 (get_or row i 0)

-- What a row's words tell the voice.
unfoldable pub parameters_of : ℕ → List ℕ → EngineParameters
parameters_of rate row =
    record {
      note = float_at row (place note);
      timbre = float_at row (place timbre);
      morph = float_at row (place morph);
      harmonics = float_at row (place harmonics);
      a0_normalized = a0_of rate;
    }

-- The state that a row begins with, where st is the state before it: "each row with restart 1, begins with `init`", which leaves the fresh one.
unfoldable pub start_of : State → List ℕ → State → State
start_of fresh row st = cond (restarts row) fresh st

-- "the row's out and aux words, its `held`, and its 13 kept words"
pub record Row : Type 0 where
  pub words : Take
  pub holds : Holds

-- "The row's block is then made from that state and the row by the definitions of demand 2."
unfoldable pub row_from : Setup → List ℕ → State → Row
row_from s row st =
    let b = rendered s.bank s.map s.frames (parameters_of s.rate row) (start_of (fresh_start s) row st) in
    record { words = lent b.out b.aux (kept_words b.state); holds = b.holds }

-- A row made from the 13 words of the state before it: "the next row starts from the kept words".
unfoldable pub row_by : Setup → List ℕ → List ℕ → Row
row_by s row before = row_from s row (state_of (voice_of s.instrument) before)

-- Row i of a score, from the words that a take keeps before it.
abbrev pub row_in : Setup → List ℕ → List ℕ → ℕ → Row
row_in s rows kept i = row_by s (row_at rows i) (words_before s kept i)

-- A row's block and kept words put into a take.
abbrev pub put_words : ℕ → Take → ℕ → Take → Take
put_words frames t i w =
    lent (put t.out (i * frames) w.out) (put t.aux (i * frames) w.aux) (put t.kept (i * kept_count) w.kept)

-- ---- Places moved: "Inserting moves later rows, blocks and states up by one place; removing moves them down."

-- The kept words of n rows with a place made for row p. Until it is rendered, the words of the state before it stand there: so the row behind is
-- "measured against the state before [it] where [it] came from".
abbrev pub kept_room : State → ℕ → List ℕ → ℕ → List ℕ
kept_room fresh n kept p = put (shift_up kept_count kept p n) (p * kept_count) (before_row fresh kept p)

-- A take of n rows with a place made for row p.
abbrev pub room_at : ℕ → State → ℕ → Take → ℕ → Take
room_at frames fresh n t p = lent (shift_up frames t.out p n) (shift_up frames t.aux p n) (kept_room fresh n t.kept p)

-- A take of n rows with row p taken out.
abbrev pub closed_at : ℕ → ℕ → Take → ℕ → Take
closed_at frames n t p = lent (shift_down frames t.out p n) (shift_down frames t.aux p n) (shift_down kept_count t.kept p n)

-- ---- Rows after one another.

-- No row.
abbrev pub nothing : Report
nothing = record { rows = 0; holds = none }

-- Two reports together.
unfoldable pub both : Report → Report → Report
both p q = record { rows = p.rows + q.rows; holds = plus p.holds q.holds }

-- A take as rows were rendered into it, and what is reported of them.
pub record Run : Type 0 where
  pub left : Take
  pub report : Report

abbrev pub reported : Report → Take → Run
reported p t = record { left = t; report = p }

-- Nothing more is rendered.
abbrev pub idle : Take → Run
idle t = reported nothing t

-- A run, after rows that were reported.
abbrev pub after : Report → Run → Run
after p r = reported (both p r.report) r.left

-- Whether a run stops before row j of n, where `unchanged` says that the 13 words before it are those that it had where it came from: "up to the
-- first row j that restarts or for which the 13 words kept after j - 1 are the same as before the edit", or to the end.
unfoldable pub stops_of : ℕ → List ℕ → ℕ → Bool → Bool
stops_of n rows j unchanged = eqb j n || (restarts (row_at rows j) || unchanged)

-- A run over the stretch from row a to before row e, and then on to its stop: each row is made from the words kept before it, and whether to
-- stop is asked once row e is reached. The rows are n; at most l of them are rendered.
unfoldable pub run_of : Setup → List ℕ → ℕ → ℕ → ℕ → ℕ → Take → Run
run_of s rows n zero a e t = idle t
run_of s rows n (suc l) a e t =
    let m = row_in s rows t.kept a in
    let t' = put_words s.frames t a m.words in
    after (record { rows = 1; holds = m.holds })
    (cond (eqb (a + 1) e)
    (cond (stops_of n rows (a + 1) (same (kept_at t.kept a) m.words.kept)) (idle t') (run_of s rows n l (a + 1) (a + 2) t'))
    (run_of s rows n l (a + 1) e t'))
