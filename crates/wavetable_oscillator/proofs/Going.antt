-- The three loops that carry something go on: what they carry and the lists that they fill are those of one more frame.
use Rattle.std.proofs.Common.{◌≡◌, refl, ap, subst, false, List, ℕ, suc, ◌+◌, ◌<◌, add-one, length, set, Float}
use Rattle.std.specs.Float.{nan}
use Rattle.words.specs.Binary32.{◌⊗◌}
use Rattle.words.specs.Parts.{part_of}
use Rattle.words.specs.declared.Part.{Part}
use Rattle.utils.specs.Holds.{none, of_frame, plus, AtMost}
use Rattle.utils.specs.Frames.{state_after, sum_of}
use Rattle.utils.specs.declared.holds.Holds.{Holds}
use Rattle.utils.proofs.Sums.{most_none, most_frame, most_plus}
use Rattle.utils.proofs.Frames.{after_more, count_none, count_more}
use Rattle.oscillator.specs.Bank.{table_size_f, phase_top}
use Rattle.oscillator.specs.Readings.{cutoff_of}
use Rattle.utils.proofs.Runs.{Filling, filling_none, filling_more, filling_next}
use Rattle.wavetable_oscillator.specs.declared.frames.Positions.{Positions}
use Rattle.wavetable_oscillator.specs.declared.frames.Filters.{Filters}
use Rattle.wavetable_oscillator.specs.Oscillator.{waveform_top, moved, holds_of, filtered}
use Rattle.wavetable_oscillator.specs.Stages.{positions_at, WalkedBy, part_at, key_of, PartedBy, filtering}

-- ---- the walk
pub record Walking (start : Positions) (phases₀ waveforms₀ cutoffs₀ amplitudes₀ phases waveforms cutoffs amplitudes : List Float) (s : Positions) (i : ℕ) : Type 0 where
  pub state_is : s ≡ state_after moved i start
  pub phases_are : Filling (λ j. (positions_at start j).phase ⊗ table_size_f) nan phases₀ phases i
  pub waveforms_are : Filling (λ j. (positions_at start j).waveform_modulation.value) nan waveforms₀ waveforms i
  pub cutoffs_are : Filling (λ j. cutoff_of (positions_at start j).frequency_modulation.value) nan cutoffs₀ cutoffs i
  pub amplitudes_are : Filling (λ j. (positions_at start j).amplitude_modulation.value) nan amplitudes₀ amplitudes i

module _ (start : Positions) (phases₀ waveforms₀ cutoffs₀ amplitudes₀ : List Float) where
  pub walk_begins : Walking start phases₀ waveforms₀ cutoffs₀ amplitudes₀ phases₀ waveforms₀ cutoffs₀ amplitudes₀ start 0
  unfolding state_after
  walk_begins =
      record {
        state_is = refl;
        phases_are = filling_none _ _ phases₀;
        waveforms_are = filling_none _ _ waveforms₀;
        cutoffs_are = filling_none _ _ cutoffs₀;
        amplitudes_are = filling_none _ _ amplitudes₀;
      }

  module _ (phases waveforms cutoffs amplitudes : List Float) (s : Positions) (i : ℕ) where
    pub walk_goes_on : i < length phases₀ → i < length waveforms₀ → i < length cutoffs₀ → i < length amplitudes₀
        → Walking start phases₀ waveforms₀ cutoffs₀ amplitudes₀ phases waveforms cutoffs amplitudes s i
        → Walking start phases₀ waveforms₀ cutoffs₀ amplitudes₀
        (set phases i ((moved s).phase ⊗ table_size_f))
        (set waveforms i (moved s).waveform_modulation.value)
        (set cutoffs i (cutoff_of (moved s).frequency_modulation.value))
        (set amplitudes i (moved s).amplitude_modulation.value)
        (moved s) (i + 1)
    walk_goes_on hp hw hc ha w =
        let e : moved s ≡ positions_at start i = ap moved w.state_is in
        record {
          state_is = after_more moved i start s (moved s) refl w.state_is;
          phases_are = filling_more _ _ phases₀ phases i _ hp (ap (λ (t : Positions). t.phase ⊗ table_size_f) e) w.phases_are;
          waveforms_are = filling_more _ _ waveforms₀ waveforms i _ hw (ap (λ (t : Positions). t.waveform_modulation.value) e) w.waveforms_are;
          cutoffs_are = filling_more _ _ cutoffs₀ cutoffs i _ hc (ap (λ (t : Positions). cutoff_of t.frequency_modulation.value) e) w.cutoffs_are;
          amplitudes_are = filling_more _ _ amplitudes₀ amplitudes i _ ha (ap (λ (t : Positions). t.amplitude_modulation.value) e) w.amplitudes_are;
        }

    pub walk_ends : (size : ℕ) → i ≡ size → Walking start phases₀ waveforms₀ cutoffs₀ amplitudes₀ phases waveforms cutoffs amplitudes s i
        → WalkedBy start size s phases waveforms cutoffs amplitudes
    walk_ends size e w =
        let v = subst (Walking start phases₀ waveforms₀ cutoffs₀ amplitudes₀ phases waveforms cutoffs amplitudes s) e w in
        record {
          end_is = v.state_is;
          phases_are = v.phases_are.filled;
          waveforms_are = v.waveforms_are.filled;
          cutoffs_are = v.cutoffs_are.filled;
          amplitudes_are = v.amplitudes_are.filled;
        }

-- ---- the parts

pub record Parting (phases₀ waveforms₀ : List Float) (keys₀ : List ℕ) (phases waveforms : List Float) (keys : List ℕ) (holds : Holds) (i : ℕ) : Type 0 where
  pub few : AtMost i holds
  pub holds_are : holds ≡ sum_of suc (λ j. holds_of (part_at waveform_top waveforms₀ j) (part_at phase_top phases₀ j)) i 0
  pub keys_are : Filling (λ j. key_of (part_at waveform_top waveforms₀ j) (part_at phase_top phases₀ j)) 0 keys₀ keys i
  pub phases_are : Filling (λ j. (part_at phase_top phases₀ j).fraction) nan phases₀ phases i
  pub waveforms_are : Filling (λ j. (part_at waveform_top waveforms₀ j).fraction) nan waveforms₀ waveforms i

module _ (phases₀ waveforms₀ : List Float) (keys₀ : List ℕ) where
  pub part_begins : Parting phases₀ waveforms₀ keys₀ phases₀ waveforms₀ keys₀ none 0
  part_begins =
      record {
        few = most_none 0;
        holds_are = count_none _;
        keys_are = filling_none _ _ keys₀;
        phases_are = filling_none _ _ phases₀;
        waveforms_are = filling_none _ _ waveforms₀;
      }

  module _ (phases waveforms : List Float) (keys : List ℕ) (holds : Holds) (i : ℕ) where
    -- the parts of the frame that comes
    abbrev waveform : Part
    waveform = part_at waveform_top waveforms i

    abbrev phase : Part
    phase = part_at phase_top phases i

    pub part_goes_on : i < length phases₀ → i < length waveforms₀ → i < length keys₀
        → Parting phases₀ waveforms₀ keys₀ phases waveforms keys holds i
        → Parting phases₀ waveforms₀ keys₀ (set phases i phase.fraction) (set waveforms i waveform.fraction) (set keys i (key_of waveform phase))
        (plus holds (of_frame phase.held waveform.held false)) (i + 1)
    part_goes_on hp hw hk g =
        let p : phase ≡ part_at phase_top phases₀ i = ap (part_of phase_top) (filling_next _ _ phases₀ phases i g.phases_are) in
        let w : waveform ≡ part_at waveform_top waveforms₀ i = ap (part_of waveform_top) (filling_next _ _ waveforms₀ waveforms i g.waveforms_are) in
        record {
          few = most_plus g.few (most_frame phase.held waveform.held false);
          holds_are = count_more _ _ _ i g.holds_are (rw (w, p));
          keys_are = filling_more _ _ keys₀ keys i _ hk (rw (w, p)) g.keys_are;
          phases_are = filling_more _ _ phases₀ phases i _ hp (ap (λ (q : Part). q.fraction) p) g.phases_are;
          waveforms_are = filling_more _ _ waveforms₀ waveforms i _ hw (ap (λ (q : Part). q.fraction) w) g.waveforms_are;
        }

  pub part_ends : (phases waveforms : List Float) (keys : List ℕ) (holds : Holds) (i size : ℕ) → i ≡ size → Parting phases₀ waveforms₀ keys₀ phases waveforms keys holds i
      → PartedBy phases₀ waveforms₀ size holds phases waveforms keys
  part_ends phases waveforms keys holds i size e g =
      let v = subst (Parting phases₀ waveforms₀ keys₀ phases waveforms keys holds) e g in
      record { holds_are = v.holds_are; keys_are = v.keys_are.filled; phases_are = v.phases_are.filled; waveforms_are = v.waveforms_are.filled }

-- ---- the filters
pub record Filtering (cutoff reading : ℕ → Float) (start : Filters) (lps₀ lps : List Float) (f : Filters) (i : ℕ) : Type 0 where
  pub state_is : f ≡ filtering cutoff reading i start
  pub lps_are : Filling (λ j. (filtering cutoff reading (suc j) start).lp) nan lps₀ lps i

module _ (cutoff reading : ℕ → Float) (start : Filters) (lps₀ : List Float) where
  pub filter_begins : Filtering cutoff reading start lps₀ lps₀ start 0
  unfolding filtering
  filter_begins = record { state_is = refl; lps_are = filling_none _ _ lps₀ }

  pub filter_goes_on : (lps : List Float) (f : Filters) (i : ℕ) → i < length lps₀ → Filtering cutoff reading start lps₀ lps f i
      → Filtering cutoff reading start lps₀ (set lps i (filtered (cutoff i) (reading i) f).lp) (filtered (cutoff i) (reading i) f) (i + 1)
  unfolding filtering
  filter_goes_on lps f i h g =
      let e = ap (filtered (cutoff i) (reading i)) g.state_is in
      record {
        state_is = rw (add-one) e;
        lps_are = filling_more _ _ lps₀ lps i _ h (ap (λ (t : Filters). t.lp) e) g.lps_are;
      }
