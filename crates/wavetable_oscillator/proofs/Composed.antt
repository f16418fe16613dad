-- A block in stages is the block frame by frame: at each frame, what a stage leaves is what the definition has from the state before that frame.
use Rattle.std.proofs.Common.{◌≡◌, refl, sym, ap, ◌∙◌, false, List, ℕ, zero, suc, ◌+◌, ◌*◌, ◌≤◌, ◌<◌, mul-le-mul_right, arith, ℤ, pos, length, get_or, Float}
use Rattle.std.specs.Float.Ieee.{to_bits}
use Rattle.std.specs.Float.{nan, binary32}
use Rattle.words.specs.Binary32.{◌⊗◌, decimal}
use Rattle.words.specs.Parts.{part_of}
use Rattle.words.specs.declared.Part.{Part}
use Rattle.words.proofs.Parts.{held_most}
use Rattle.utils.specs.Holds.{AtMost}
use Rattle.utils.specs.Frames.{state_after, Filled}
use Rattle.utils.specs.Rendered.{most_holds, Renders}
use Rattle.utils.specs.declared.holds.Holds.{Holds}
use Rattle.utils.specs.declared.engine.EngineParameters.{EngineParameters}
use Rattle.utils.proofs.Sums.{most_more, most_frame}
use Rattle.utils.proofs.Frames.{after_suc, sum_most, part_after, count_frames, filled_each}
use Rattle.oscillator.specs.Bank.{wave_length, table_size_f, phase_top}
use Rattle.oscillator.specs.Readings.{cutoff_of, float_of_i16}
use Rattle.oscillator.proofs.Readings.{wave_part}
use Rattle.wavetable_oscillator.specs.declared.WavetableOscillator.{WavetableOscillator}
use Rattle.wavetable_oscillator.specs.declared.frames.Positions.{Positions}
use Rattle.wavetable_oscillator.specs.declared.frames.Filters.{Filters}
use Rattle.wavetable_oscillator.specs.Oscillator.{waveform_top, targets_of, begun, moved, waveform_part, phase_part, read_wave, reading, filtered, sample_of, Frame, framed, rendered}
use Rattle.wavetable_oscillator.specs.Stages.{positions_at, WalkedBy, part_at, key_of, PartedBy, KeysFit, reading_at, filtering, read, FilteredBy}

-- a key of parts fits
key_fits : (x y : Float) → key_of (part_of waveform_top x) (part_of phase_top y) ≤ waveform_top * wave_length + phase_top
key_fits x y =
    let w = mul-le-mul_right wave_length (held_most waveform_top x) in
    omega (arith, w, held_most phase_top y)

pub keys_fit : (phases₀ waveforms₀ : List Float) (size : ℕ) (holds : Holds) (phases waveforms : List Float) (keys : List ℕ)
    → PartedBy phases₀ waveforms₀ size holds phases waveforms keys → KeysFit keys size
keys_fit phases₀ waveforms₀ size holds phases waveforms keys p =
    record { each_fits = λ j h. rw (p.keys_are.done j h) (key_fits (get_or waveforms₀ j nan) (get_or phases₀ j nan)) }

-- the reading by a key is that of its wave and the next
reading_by_key : (bank : List ℤ) (w p : Part) → reading_at bank (key_of w p) p.fraction w.fraction ≡ reading bank w p
unfolding reading_at reading read_wave
reading_by_key bank w p =
    let on : (w.whole + 1) * wave_length + p.whole ≡ w.whole * wave_length + p.whole + wave_length = omega arith in
    rw (
      wave_part float_of_i16 (pos 0) bank (w.whole * wave_length) p.whole p.fraction,
      wave_part float_of_i16 (pos 0) bank ((w.whole + 1) * wave_length) p.whole p.fraction,
      on,
    )

module _ (bank : List ℤ) (start : Frame) where
  abbrev next : Frame → Frame
  next f = (framed bank f).next

  -- the frame that frame j begins with
  abbrev at : ℕ → Frame
  at j = state_after next j start

  positions_after : (j : ℕ) → (at j).positions ≡ state_after moved j start.positions
  unfolding framed
  positions_after j = part_after next (λ (f : Frame). f.positions) moved (λ f. refl) j start

  -- what frame j reads, and its coefficient
  abbrev reading_of : ℕ → Float
  reading_of j = reading bank (waveform_part (moved (at j).positions)) (phase_part (moved (at j).positions))

  abbrev cutoff_at : ℕ → Float
  cutoff_at j = cutoff_of (moved (at j).positions).frequency_modulation.value

  filters_on : (f : Frame)
      → filtered (cutoff_of (moved f.positions).frequency_modulation.value) (reading bank (waveform_part (moved f.positions)) (phase_part (moved f.positions))) f.filters
      ≡ (next f).filters
  unfolding framed
  filters_on f = refl

  module _ (size : ℕ) (cutoff x : ℕ → Float) (same_cutoff : (j : ℕ) → j < size → cutoff j ≡ cutoff_at j) (same_reading : (j : ℕ) → j < size → x j ≡ reading_of j) where
    pub filtering_after : (j : ℕ) → j ≤ size → filtering cutoff x j start.filters ≡ (at j).filters
    unfolding filtering state_after
    filtering_after zero h = refl
    filtering_after (suc j) h =
        rw (same_cutoff j (omega arith), same_reading j (omega arith), filtering_after j (omega arith))
        (filters_on (at j) ∙ ap (λ (f : Frame). f.filters) (sym (after_suc next j start)))

-- What the stages of a block leave behind them.
pub record Staged (bank : List ℤ) (size : ℕ) (start : Frame) (end : Positions) (holds : Holds) (last : Filters) (out aux : List ℕ) : Type 0 where
  pub phases₀ : List Float
  pub waveforms₀ : List Float
  pub phases : List Float
  pub waveforms : List Float
  pub cutoffs : List Float
  pub amplitudes : List Float
  pub keys : List ℕ
  pub lps : List Float
  pub walked : WalkedBy start.positions size end phases₀ waveforms₀ cutoffs amplitudes
  pub parted : PartedBy phases₀ waveforms₀ size holds phases waveforms keys
  pub filters_are : FilteredBy bank keys phases waveforms cutoffs start.filters size last lps
  pub out_are : Filled (λ j. to_bits binary32 (sample_of (get_or amplitudes j nan) (get_or lps j nan))) 0 out size
  pub aux_are : Filled (λ j. to_bits binary32 (decimal 0 0)) 0 aux size
  pub out_long : length out ≡ size
  pub aux_long : length aux ≡ size

module _ (bank : List ℤ) (high low : List Float) (size : ℕ) (parameters : EngineParameters) (s : WavetableOscillator) where
  abbrev pub begin : Frame
  begin =
      record {
        positions = begun size (targets_of high low parameters) s;
        filters = record { lp = s.lp; differentiator = s.differentiator };
      }

  module _ (end : Positions) (holds : Holds) (last : Filters) (out aux : List ℕ) (g : Staged bank size begin end holds last out aux) where
    -- the positions of frame j
    here : (j : ℕ) → positions_at begin.positions j ≡ moved (at bank begin j).positions
    here j = ap moved (sym (positions_after bank begin j))

    phase_is : (j : ℕ) → j < size → part_at phase_top g.phases₀ j ≡ phase_part (moved (at bank begin j).positions)
    phase_is j h = ap (part_of phase_top) (g.walked.phases_are.done j h ∙ ap (λ (t : Positions). t.phase ⊗ table_size_f) (here j))

    waveform_is : (j : ℕ) → j < size → part_at waveform_top g.waveforms₀ j ≡ waveform_part (moved (at bank begin j).positions)
    waveform_is j h = ap (part_of waveform_top) (g.walked.waveforms_are.done j h ∙ ap (λ (t : Positions). t.waveform_modulation.value) (here j))

    cutoff_is : (j : ℕ) → j < size → get_or g.cutoffs j nan ≡ cutoff_at bank begin j
    cutoff_is j h = g.walked.cutoffs_are.done j h ∙ ap (λ (t : Positions). cutoff_of t.frequency_modulation.value) (here j)

    reading_is : (j : ℕ) → j < size → read bank g.keys g.phases g.waveforms j ≡ reading_of bank begin j
    reading_is j h =
        rw (g.parted.keys_are.done j h, g.parted.phases_are.done j h, g.parted.waveforms_are.done j h, waveform_is j h, phase_is j h)
        (reading_by_key bank _ _)

    filters_after : (j : ℕ) → j ≤ size
        → filtering (λ j. get_or g.cutoffs j nan) (read bank g.keys g.phases g.waveforms) j begin.filters ≡ (at bank begin j).filters
    filters_after = filtering_after bank begin size _ _ cutoff_is reading_is

    sample_is : (j : ℕ) → j < size → sample_of (get_or g.amplitudes j nan) (get_or g.lps j nan) ≡ (framed bank (at bank begin j)).out
    unfolding framed
    sample_is j h =
        let a = g.walked.amplitudes_are.done j h ∙ ap (λ (t : Positions). t.amplitude_modulation.value) (here j) in
        let l = g.filters_are.lps_are.done j h ∙ ap (λ (f : Filters). f.lp) (filters_after (suc j) h ∙ ap (λ (f : Frame). f.filters) (after_suc (next bank begin) j begin)) in
        rw (a, l)

    holds_are : holds ≡ (rendered bank high low size parameters s).holds
    unfolding rendered framed
    holds_are =
        g.parted.holds_are
        ∙ sym (count_frames (next bank begin) (λ f. (framed bank f).holds) begin _ size (λ j h. rw (waveform_is j h, phase_is j h)))

    holds_few : AtMost (most_holds * size) holds
    holds_few = rw g.parted.holds_are (most_more (omega arith) (sum_most suc _ 1 (λ j. most_frame (part_at phase_top g.phases₀ j).held (part_at waveform_top g.waveforms₀ j).held false) size 0))

    end_is : end ≡ (at bank begin size).positions
    end_is = g.walked.end_is ∙ sym (positions_after bank begin size)

    last_is : last ≡ (at bank begin size).filters
    last_is = g.filters_are.end_is ∙ filters_after size (omega arith)

    -- the state that the code makes up
    abbrev left : WavetableOscillator
    left =
        record {
          phase = end.phase;
          frequency = end.frequency_modulation.value;
          amplitude = end.amplitude_modulation.value;
          waveform = end.waveform_modulation.value;
          lp = last.lp;
          differentiator = last.differentiator;
        }

    out_is : out ≡ (rendered bank high low size parameters s).out
    unfolding rendered
    out_is = filled_each _ (to_bits binary32) 0 _ (λ f. (framed bank f).out) out size begin g.out_long sample_is g.out_are

    aux_is : aux ≡ (rendered bank high low size parameters s).aux
    unfolding rendered framed
    aux_is = filled_each _ (to_bits binary32) 0 _ (λ f. (framed bank f).aux) aux size begin g.aux_long (λ j h. refl) g.aux_are

    state_is : left ≡ (rendered bank high low size parameters s).state
    unfolding rendered
    state_is = rw (end_is, last_is)

    pub renders : Renders (rendered bank high low size parameters s) size left holds out aux
    renders = record { out_is = out_is; aux_is = aux_is; state_is = state_is; holds_is = holds_are; holds_most = holds_few }
