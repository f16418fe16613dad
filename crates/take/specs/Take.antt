-- Document 01, "Calls and their numbers", and document 02: what whole rendering, an edit, an insertion and a removal answer, and what they leave in
-- each lent buffer, as functions on lists of words.
use Rattle.std.specs.Prelude.{ℕ, ◌+◌, ◌-◌, List, [], ◌∷◌, Bool, false, cond, Result, Ok, Err}
use Rattle.lists.specs.Lists.{same}
use Rattle.utils.specs.declared.holds.Holds.{Holds}
use Rattle.score.specs.Rows.{row_at, remove_row}
use Rattle.score.specs.Numbers.{Tested, CallResult, done, refused}
use Rattle.score.specs.declared.refusal.Refusal.{Refusal}
use Rattle.rows.specs.declared.Report.{Report}
use Rattle.rows.specs.Rows.{Setup, Take, fresh_start, words_before, room_at, closed_at, Run, idle, stops_of, run_of}
use Rattle.refusals.specs.declared.Call.{Call}
use Rattle.refusals.specs.declared.Call.TheVariants.{Render, Edit, Insert, Remove}
use Rattle.refusals.specs.Calls.{count_after, rows_after, position}
use Rattle.refusals.specs.Refusals.{refusal_of}

-- The five counts, in the order of document 02, N5: "phase, wave position (x or y), level (z), map or bank".
abbrev pub counts_of : Holds → List ℕ
counts_of h = h.phase ∷ h.wave_position ∷ h.level ∷ h.map ∷ h.bank ∷ []

-- Document 01's number and values for each case of an answer: "Success carries .. the rows rendered and `held` of just those rows"; "Blocks,
-- renderings, edits and splices carry the five counts, over the same rows as `held`."
unfoldable pub result_of : Result Report Refusal → CallResult
result_of (Ok report) = done (report.rows ∷ report.holds.held ∷ counts_of report.holds)
result_of (Err r) = refused r

-- What a call answers, and the lent row words and the take as it leaves them.
pub record Outcome : Type 0 where
  pub answer : Result Report Refusal
  pub rows : List ℕ
  pub left : Take

abbrev pub outcome : Result Report Refusal → List ℕ → Take → Outcome
outcome answer rows t = record { answer = answer; rows = rows; left = t }

-- A refused call changes no lent buffer.
abbrev pub refused_by : Refusal → List ℕ → Take → Outcome
refused_by r rows t = outcome (Err r) rows t

-- A call that was not refused reports its run.
abbrev pub ran : List ℕ → Run → Outcome
ran rows r = outcome (Ok r.report) rows r.left

-- ---- What an accepted call does, handed a count of n.

-- The take with its places moved, before anything is rendered.
unfoldable pub moved_by : Setup → ℕ → Take → Call → Take
moved_by s n t Render = t
moved_by s n t (Edit k row) = t
moved_by s n t (Insert p row) = room_at s.frames (fresh_start s) n t p
moved_by s n t (Remove p) = closed_at s.frames n t p

-- Rendering starts at the call's position. The end of the stretch that is rendered before a run asks whether to stop: all rows of a whole rendering;
-- else the one row where "Rendering starts".
unfoldable pub stretch_end : ℕ → Call → ℕ
stretch_end n Render = n
stretch_end n (Edit k row) = k + 1
stretch_end n (Insert p row) = p + 1
stretch_end n (Remove p) = p + 1

-- Whether nothing is rendered. An edit: "If all five words are equal, nothing is written." A removal: where a run would stop before "the row now
-- there", "measured against the state before [it] where [it] came from", which was row p + 1.
unfoldable pub renders_nothing : Setup → ℕ → List ℕ → Take → Call → Bool
renders_nothing s n rows t Render = false
renders_nothing s n rows t (Edit k row) = same (row_at rows k) row
renders_nothing s n rows t (Insert p row) = false
renders_nothing s n rows t (Remove p) = stops_of (n - 1) (remove_row n rows p) p (same (words_before s t.kept (p + 1)) (words_before s t.kept p))

unfoldable pub done_of : Setup → ℕ → List ℕ → Take → Call → Outcome
done_of s n rows t c =
    let n' = count_after n c in
    let rows' = rows_after n rows c in
    let t' = moved_by s n t c in
    ran rows' (cond (renders_nothing s n rows t c) (idle t') (run_of s rows' n' n' (position c) (stretch_end n c) t'))

-- ---- A call.

-- A call that its test refuses changes nothing; one that it accepts is done.
abbrev pub tested : Tested → Outcome → List ℕ → Take → Outcome
tested (Ok u) o rows t = o
tested (Err r) o rows t = refused_by r rows t

unfoldable pub call_of : Setup → ℕ → List ℕ → Take → Call → Outcome
call_of s n rows t c = tested (refusal_of s n rows t c) (done_of s n rows t c) rows t
