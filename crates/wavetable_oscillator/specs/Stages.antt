-- How the code goes through a block: not frame by frame, but in stages over the lent arrays. Of each stage, what it leaves for a frame.
use Rattle.std.specs.Prelude.{ℕ, zero, suc, ◌+◌, ◌*◌, ◌≤◌, ◌<◌, ◌≡◌, List, ℤ, pos, get_or, Float}
use Rattle.std.specs.Float.{nan}
use Rattle.words.specs.Binary32.{◌⊗◌}
use Rattle.words.specs.Parts.{part_of}
use Rattle.words.specs.declared.Part.{Part}
use Rattle.utils.specs.Frames.{state_after, sum_of, Filled}
use Rattle.utils.specs.declared.holds.Holds.{Holds}
use Rattle.oscillator.specs.Bank.{wave_length, table_size_f, phase_top}
use Rattle.oscillator.specs.Readings.{cutoff_of, interpolate_wave, float_of_i16}
use Rattle.wavetable_oscillator.specs.declared.frames.Positions.{Positions}
use Rattle.wavetable_oscillator.specs.declared.frames.Filters.{Filters}
use Rattle.wavetable_oscillator.specs.Oscillator.{waveform_top, moved, holds_of, between, filtered}

-- ---- the walk

-- The positions of frame j.
abbrev pub positions_at : Positions → ℕ → Positions
positions_at start j = moved (state_after moved j start)

-- The walk through `size` frames.
pub record WalkedBy (start : Positions) (size : ℕ) (end : Positions) (phases waveforms cutoffs amplitudes : List Float) : Type 0 where
  pub end_is : end ≡ state_after moved size start
  pub phases_are : Filled (λ j. (positions_at start j).phase ⊗ table_size_f) nan phases size
  pub waveforms_are : Filled (λ j. (positions_at start j).waveform_modulation.value) nan waveforms size
  pub cutoffs_are : Filled (λ j. cutoff_of (positions_at start j).frequency_modulation.value) nan cutoffs size
  pub amplitudes_are : Filled (λ j. (positions_at start j).amplitude_modulation.value) nan amplitudes size

-- ---- the parts

-- The parts of entry j of a list.
abbrev pub part_at : ℕ → List Float → ℕ → Part
part_at top l j = part_of top (get_or l j nan)

-- Where a frame's first wave is read in the bank.
abbrev pub key_of : Part → Part → ℕ
key_of waveform phase = waveform.whole * wave_length + phase.whole

-- The parts of `size` frames by their phases and waveforms.
pub record PartedBy (phases₀ waveforms₀ : List Float) (size : ℕ) (holds : Holds) (phases waveforms : List Float) (keys : List ℕ) : Type 0 where
  pub holds_are : holds ≡ sum_of suc (λ j. holds_of (part_at waveform_top waveforms₀ j) (part_at phase_top phases₀ j)) size 0
  pub keys_are : Filled (λ j. key_of (part_at waveform_top waveforms₀ j) (part_at phase_top phases₀ j)) 0 keys size
  pub phases_are : Filled (λ j. (part_at phase_top phases₀ j).fraction) nan phases size
  pub waveforms_are : Filled (λ j. (part_at waveform_top waveforms₀ j).fraction) nan waveforms size

-- ---- the filters

-- A key of parts within their tops.
pub record KeysFit (keys : List ℕ) (size : ℕ) : Type 0 where
  pub each_fits : (j : ℕ) → j < size → get_or keys j 0 ≤ waveform_top * wave_length + phase_top

-- The reading by a key and the two fractions.
unfoldable pub reading_at : List ℤ → ℕ → Float → Float → Float
reading_at bank key phase waveform =
    between (interpolate_wave float_of_i16 (pos 0) bank key phase) (interpolate_wave float_of_i16 (pos 0) bank (key + wave_length) phase) waveform

-- The filters after j frames, by each frame's coefficient and reading.
unfoldable pub filtering : (ℕ → Float) → (ℕ → Float) → ℕ → Filters → Filters
filtering cutoff reading zero f = f
filtering cutoff reading (suc j) f = filtered (cutoff j) (reading j) (filtering cutoff reading j f)

-- What frame j reads, by the lists.
abbrev pub read : List ℤ → List ℕ → List Float → List Float → ℕ → Float
read bank keys phases waveforms j = reading_at bank (get_or keys j 0) (get_or phases j nan) (get_or waveforms j nan)

-- The readings of `size` frames, filtered.
pub record FilteredBy (bank : List ℤ) (keys : List ℕ) (phases waveforms cutoffs : List Float) (start : Filters) (size : ℕ) (end : Filters) (lps : List Float) : Type 0 where
  pub end_is : end ≡ filtering (λ j. get_or cutoffs j nan) (read bank keys phases waveforms) size start
  pub lps_are : Filled (λ j. (filtering (λ j. get_or cutoffs j nan) (read bank keys phases waveforms) (suc j) start).lp) nan lps size
