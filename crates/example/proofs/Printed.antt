-- What the example prints is computed with the bank unknown: positions, stops and holds do not depend on it, and a comparison of kept words
-- ends at word 1, pre x, before the words that do. What a call tests of the bank is its length alone.
use Rattle.std.proofs.Common.{Ok, ◌≡◌, refl, ap, ◌∙◌, true, cond, List, [], ◌∷◌, ◌++◌, ℕ, ◌+◌, ltb, ℤ, length, drop}
use Rattle.std.specs.Float.Ieee.{of_bits, to_bits, lt, le, add, sub, mul, div, neg, of_int, to_unsigned, is_nan}
use Rattle.words.specs.Binary32.{decimal}
use Rattle.lists.specs.Lists.{same}
use Rattle.words.specs.Parts.{part_of}
use Rattle.utils.specs.Holds.{of_frame, plus, total}
use Rattle.utils.specs.Frames.{state_after, each_of}
use Rattle.utils.specs.Units.{note_to_frequency, semitones_to_ratio, lut_pitch_ratio_high, lut_pitch_ratio_low}
use Rattle.oscillator.specs.Bank.{bank_length}
use Rattle.wavetable_engine.specs.Wavetable.{quantised, set_up, moved, parts_of, holds_of, framed}
use Rattle.wavetable_engine.specs.Wavetable as wavetable
use Rattle.voice.specs.Voice.{voice_of, fresh_state, kept_words, wavetable_of, state_of, rendered}
use Rattle.std.specs.Fmt.{digits}
use Rattle.formats.specs.Formats.{samples_of}
use Rattle.score.specs.Limits.{limit, float_to, row_within, first_bad, bad_refusal, limit_refusal}
use Rattle.score.specs.Rows.{row_at, put_row}
use Rattle.score.specs.Numbers.{accepted}
use Rattle.text.specs.Text.{split, lines_of, column_of, is_digit, digit_of, each_digit, is_word, followed_by, word_of, each_word}
use Rattle.names.specs.Sources.{sources_of, each_readable, column_count, each_once, holds_names}
use Rattle.values.specs.Lines.{holds_words, row_of, rows_of, test_line}
use Rattle.reader.specs.Reading.{outcome, test_lines, test_text, text_rows, test_count, settle, read_text, score_table, read_of, edit_table, read_edits_of}
use Rattle.rows.specs.Rows.{parameters_of, start_of, row_from, row_by, before_row, both, stops_of, run_of, Setup, Take, Run, idle}
use Rattle.refusals.specs.declared.Call.{Call}
use Rattle.refusals.specs.declared.Call.TheVariants.{Render, Edit}
use Rattle.refusals.specs.Calls.{count_after, rows_after, position, least_count, largest_count}
use Rattle.refusals.specs.Refusals.{settings_refusal, lengths_refusal, wrong_position, full, score_refusal, refusal_of}
use Rattle.take.specs.Take.{Outcome, ran, moved_by, stretch_end, renders_nothing, done_of, call_of}
use Rattle.retakes.specs.Retakes.{Reel, reel, called}
use Rattle.inputs.specs.Inputs.{zeros, test_length, text_of, score_text, edits_text, test_bank, inputs_by}
use Rattle.outputs.specs.Lines.{heading, counts_line, edit_line}
use Rattle.retake_lib.specs.Program.{edit_from, edits_from, setup_with, blank, edit_lines, played, output_of, program}
use Rattle.retake_lib.proofs.Editing.{next_is}
use Rattle.retake_lib.proofs.Files.{samples_long}
use Rattle.example.specs.Example.{text, example_score, example_edits, example_printed, ExamplePrinted}

-- ---- what is read

abbrev half : ℕ
half = 0x3f000000

abbrev one : ℕ
one = 0x3f800000

-- A row of the example by its timbre and its restart: the note is 60, the rest is 0.
abbrev row : ℕ → ℕ → List ℕ
row timbre restart = 0x42700000 ∷ timbre ∷ 0 ∷ 0 ∷ restart ∷ []

-- The rows at first, after the edit of row 1, and after that of row 0.
abbrev rows₀ : List ℕ
rows₀ = row 0 1 ++ (row half 0 ++ row half 1)

abbrev rows₁ : List ℕ
rows₁ = row 0 1 ++ (row one 0 ++ row half 1)

abbrev rows₂ : List ℕ
rows₂ = row one 1 ++ (row one 0 ++ row half 1)

abbrev edits : List ℕ
edits = (1 ∷ row one 0) ++ ((0 ∷ row one 1) ++ (2 ∷ row half 1))

read : (score_text example_score ≡ outcome (Ok 3) (rows₀ ++ zeros 625)) × (edits_text example_edits ≡ outcome (Ok 3) (edits ++ zeros 174))
unfolding text_of test_length zeros read_of read_edits_of read_text score_table edit_table test_text text_rows test_lines test_line test_count settle split lines_of same
    column_of sources_of each_readable column_count each_once holds_names is_digit digit_of each_digit is_word followed_by word_of each_word holds_words row_of rows_of row_within limit
    float_to le decimal of_bits
read = (refl, refl)

-- No row is outside its limits: at first, after the edit of row 1, and after that of row 0, which the third edit leaves.
record Within : Type 0 where
  score : limit_refusal 3 rows₀ ≡ accepted
  edit₁ : limit_refusal 3 rows₁ ≡ accepted
  edit₂ : limit_refusal 3 rows₂ ≡ accepted

within : Within
unfolding limit_refusal bad_refusal first_bad row_within limit float_to le decimal of_bits
within = record { score = refl; edit₁ = refl; edit₂ = refl }

-- ---- calls with a full bank

module _ (bank : List ℤ) (full_bank : length bank ≡ bank_length) where
  abbrev s : Setup
  s = setup_with bank

  settings_pass : settings_refusal s ≡ accepted
  unfolding settings_refusal
  settings_pass = rw full_bank refl

  -- The lengths of the rows and of the take are right: then none of 1 to 7 refuses a call on three rows.
  abbrev Long : List ℕ → Take → Call → Type 0
  Long rows t c = lengths_refusal s 3 rows t c ≡ accepted

  render_is : (rows : List ℕ) (t : Take) → Long rows t Render → limit_refusal 3 rows ≡ accepted → call_of s 3 rows t Render ≡ ran rows (run_of s rows 3 3 0 3 t)
  unfolding call_of refusal_of score_refusal wrong_position full count_after rows_after position moved_by stretch_end renders_nothing done_of
  render_is rows t e l = rw (settings_pass, e, l) refl

  edit_is : (rows : List ℕ) (k : ℕ) (row : List ℕ) (t : Take) → Long rows t (Edit k row) → ltb k 3 ≡ true → limit_refusal 3 (put_row rows k row) ≡ accepted
      → call_of s 3 rows t (Edit k row) ≡ ran (put_row rows k row) (cond (same (row_at rows k) row) (idle t) (run_of s (put_row rows k row) 3 3 k (k + 1) t))
  unfolding call_of refusal_of score_refusal wrong_position full count_after rows_after position moved_by stretch_end renders_nothing done_of
  edit_is rows k row t e b l = rw (settings_pass, e, b, l) refl

  -- ---- the whole rendering, and the edits of row 1 and of row 0

  abbrev run₀ : Run
  run₀ = run_of s rows₀ 3 3 0 3 (blank 3)

  abbrev run₁ : Run
  run₁ = run_of s rows₁ 3 3 1 2 run₀.left

  abbrev run₂ : Run
  run₂ = run_of s rows₂ 3 3 0 1 run₁.left

  -- What they come to, whatever the bank holds.
  record Known : Type 0 where
    long₀ : Long rows₀ run₀.left (Edit 1 (row one 0))
    long₁ : Long rows₁ run₁.left (Edit 0 (row one 1))
    long₂ : Long rows₂ run₂.left (Edit 2 (row half 1))
    line₁ : edit_line 1 (ran rows₁ run₁).answer ≡ text ("1 1 0" ∷ [])
    line₂ : edit_line 0 (ran rows₂ run₂).answer ≡ text ("0 2 0" ∷ [])

  known : Known
  unfolding lengths_refusal least_count largest_count run_of row_from row_by before_row both plus total start_of parameters_of stops_of same state_of fresh_state voice_of rendered kept_words wavetable_of
      wavetable.rendered set_up framed quantised
      note_to_frequency semitones_to_ratio lut_pitch_ratio_high lut_pitch_ratio_low moved parts_of holds_of each_of state_after part_of decimal of_bits to_bits add sub mul div lt le neg to_unsigned of_int is_nan
      zeros edit_line counts_line digits of_frame
  known = record { long₀ = refl; long₁ = refl; long₂ = refl; line₁ = refl; line₂ = refl }

  render₀ : call_of s 3 rows₀ (blank 3) Render ≡ ran rows₀ run₀
  render₀ = render_is rows₀ (blank 3) (unfold lengths_refusal least_count largest_count zeros in refl) within.score

  edit₁ : call_of s 3 rows₀ run₀.left (Edit 1 (row one 0)) ≡ ran rows₁ run₁
  unfolding same
  edit₁ = edit_is rows₀ 1 (row one 0) run₀.left known.long₀ refl within.edit₁

  edit₂ : call_of s 3 rows₁ run₁.left (Edit 0 (row one 1)) ≡ ran rows₂ run₂
  unfolding same
  edit₂ = edit_is rows₁ 0 (row one 1) run₁.left known.long₁ refl within.edit₂

  edit₃ : call_of s 3 rows₂ run₂.left (Edit 2 (row half 1)) ≡ ran rows₂ (idle run₂.left)
  unfolding same
  edit₃ = edit_is rows₂ 2 (row half 1) run₂.left known.long₂ refl within.edit₂

  -- ---- the lines

  -- The line of an edit, and those of the edits after it.
  line_then : (o : Reel) (e : Call) (es : List Call) (line : List ℕ) (o' : Outcome) → count_after o.count e ≡ o.count → called s o e ≡ o' → edit_line (position e) o'.answer ≡ line
      → edit_lines s o (e ∷ es) ≡ line ++ edit_lines s (reel o.count o'.rows o'.left) es
  unfolding edit_lines
  line_then o e es line o' c q l = rw (next_is s o e c, q, l) refl

  lines_are : edit_lines s (reel 3 rows₀ run₀.left) (edits_from 3 edits) ≡ text ("1 1 0" ∷ "0 2 0" ∷ "2 0 0" ∷ [])
  unfolding edits_from edit_lines count_after position
  lines_are =
      line_then (reel 3 rows₀ run₀.left) (edit_from edits) (edits_from 2 (drop 6 edits)) (text ("1 1 0" ∷ [])) (ran rows₁ run₁) refl edit₁ known.line₁
      ∙ ap (λ (l : List ℕ). text ("1 1 0" ∷ []) ++ l)
      (line_then (reel 3 rows₁ run₁.left) (edit_from (drop 6 edits)) (edits_from 1 (drop 12 edits)) (text ("0 2 0" ∷ [])) (ran rows₂ run₂) refl edit₂ known.line₂)
      ∙ ap (λ (l : List ℕ). text ("1 1 0" ∷ "0 2 0" ∷ []) ++ l)
      (line_then (reel 3 rows₂ run₂.left) (edit_from (drop 12 edits)) [] (text ("2 0 0" ∷ [])) (ran rows₂ (idle run₂.left)) refl edit₃ (unfold edit_line counts_line digits in refl))

  played_is : (played s 3 rows₀ (blank 3) (edits_from 3 edits)).printed ≡ example_printed
  unfolding played count_after
  played_is = rw (next_is s (reel 3 rows₀ (blank 3)) Render refl, render₀) (ap (λ (l : List ℕ). heading ++ l) lines_are)

-- ---- the claim

pub example_printed_lem : ExamplePrinted
unfolding program inputs_by test_bank output_of edits_from
example_printed_lem bank full_bank = rw (read.0, read.1, full_bank) (played_is (samples_of bank) (samples_long bank_length bank full_bank))
