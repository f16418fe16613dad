-- What any call reports has the kinds of its voice: each row's holds have them, and sums do.
use Rattle.std.proofs.Common.{ℕ, zero, suc, ◌+◌, Bool, cond, List, eqb, Ok, Err, IfOk}
use Rattle.lists.specs.Lists.{same}
use Rattle.utils.specs.Units.{a0_of}
use Rattle.utils.specs.declared.holds.Holds.{Holds}
use Rattle.utils.proofs.Summing.{either, Summed, frames_summed, readings_summed}
use Rattle.voice.specs.declared.Voice.{Voice}
use Rattle.voice.specs.declared.Voice.TheVariants as voice
use Rattle.voice.specs.Voice.{voice_of}
use Rattle.voice.specs.HoldKinds.{KindsOn}
use Rattle.voice.proofs.RowKinds.{row_kinds}
use Rattle.score.specs.Rows.{row_at, restarts}
use Rattle.score.specs.Numbers.{Tested}
use Rattle.rows.specs.Rows.{Setup, Take, start_of, parameters_of, row_from, row_by, row_in, words_before, kept_at, put_words, both, Run, stops_of, run_of}
use Rattle.refusals.specs.declared.Call.{Call}
use Rattle.refusals.specs.Refusals.{refusal_of}
use Rattle.take.specs.Take.{tested, renders_nothing, done_of, call_of}
use Rattle.retakes.specs.Retakes.{HoldKinds}

kinds_summed : (v : Voice) → Summed (KindsOn v)
unfolding KindsOn
kinds_summed voice.Wavetable = frames_summed
kinds_summed voice.Terrain = readings_summed
kinds_summed voice.Oscillator = frames_summed

module _ (s : Setup) where
  abbrev On : Holds → Type 0
  On = KindsOn (voice_of s.instrument)

  row_on : (row before : List ℕ) → On (row_by s row before).holds
  unfolding row_by row_from start_of
  row_on row before = row_kinds s.bank s.map s.frames (parameters_of s.rate row) (voice_of s.instrument) (a0_of s.rate) before (restarts row)

  one_run : (b : Bool) (r q : Run) → On r.report.holds → On q.report.holds → On (cond b r q).report.holds
  one_run = either (λ (r : Run). On r.report.holds)

  -- a row, and then what comes after it
  run_on : (rows : List ℕ) (n l a e : ℕ) (t : Take) → On (run_of s rows n l a e t).report.holds
  unfolding run_of both
  run_on rows n zero a e t = (kinds_summed (voice_of s.instrument)).of_none
  run_on rows n (suc l) a e t =
      let none = (kinds_summed (voice_of s.instrument)).of_none in
      let m = row_in s rows t.kept a in
      let t' = put_words s.frames t a m.words in
      (kinds_summed (voice_of s.instrument)).of_plus _ _ (row_on (row_at rows a) (words_before s t.kept a))
      (one_run (eqb (a + 1) e) _ _
      (one_run (stops_of n rows (a + 1) (same (kept_at t.kept a) m.words.kept)) _ _ none (run_on rows n l (a + 1) (a + 2) t'))
      (run_on rows n l (a + 1) e t'))

call_on : (s : Setup) (n : ℕ) (rows : List ℕ) (t : Take) (c : Call) → IfOk (call_of s n rows t c).answer (λ p. KindsOn (voice_of s.instrument) p.holds)
unfolding call_of done_of
call_on s n rows t c = go (refusal_of s n rows t c)
  where
    go : (r : Tested) → IfOk (tested r (done_of s n rows t c) rows t).answer (λ p. KindsOn (voice_of s.instrument) p.holds)
    go (Ok u) = one_run s (renders_nothing s n rows t c) _ _ (kinds_summed (voice_of s.instrument)).of_none (run_on s _ _ _ _ _ _)
    go (Err r) = tt

pub hold_kinds : HoldKinds
hold_kinds s o c p e = rw e at (call_on s o.count o.rows o.left c)
