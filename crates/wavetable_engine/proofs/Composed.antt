-- A block in stages is the block frame by frame: at each frame, what a stage leaves is what the definition has from the state before that frame.
use Rattle.std.proofs.Common.{◌≡◌, refl, sym, ap, ◌∙◌, subst, List, ℕ, zero, suc, ◌*◌, ◌≤◌, ◌<◌, arith, ℤ, length, get_or, Float}
use Rattle.std.specs.Float.Ieee.{to_bits}
use Rattle.std.specs.Float.{nan, binary32}
use Rattle.utils.specs.Holds.{total, AtMost}
use Rattle.utils.specs.Frames.{state_after, sum_of, Filled}
use Rattle.utils.specs.Rendered.{Renders}
use Rattle.utils.proofs.Sums.{most_more}
use Rattle.utils.proofs.Frames.{after_suc, sum_most, part_after, part_each, filled_each}
use Rattle.oscillator.specs.declared.wavetable_oscillator.Differentiator.{Differentiator}
use Rattle.utils.specs.declared.engine.Block.{Block}
use Rattle.utils.specs.declared.engine.EngineParameters.{EngineParameters}
use Rattle.wavetable_engine.specs.declared.WavetableEngine.{WavetableEngine}
use Rattle.wavetable_engine.specs.declared.SetUp.{SetUp}
use Rattle.wavetable_engine.specs.declared.frames.Positions.{Positions}
use Rattle.wavetable_engine.specs.Wavetable.{moved, parts_of, reading, lofi, Frame, framed, set_up, rendered}
use Rattle.waves.specs.Stages.{KeysFit, CornersRead, mix_at}
use Rattle.wavetable_engine.specs.Stages.{WalkedBy, Differentiating, differentiate, differentiating, sample_of}
use Rattle.wavetable_engine.proofs.Keys.{key_fits, corners_by_key}
use Rattle.wavetable_engine.proofs.Walking.{holds_at, frame_most, parts_fit}

-- the keys of a walk fit
pub keys_fit : (lp : Float) (start : Positions) (size : ℕ) (r : Block Positions) (keys : List ℕ) (xs ys zs phases : List Float) → WalkedBy lp start size r keys xs ys zs phases → KeysFit keys size
keys_fit lp start size r keys xs ys zs phases w =
    record { each_fits = λ j h. rw (w.keys_are.done j h) (key_fits _ (parts_fit _ _ refl)) }

module _ (bank : List ℤ) (lp : Float) (start : Frame) where
  abbrev next : Frame → Frame
  next f = (framed bank lp f).next

  -- the frame that frame j begins with
  abbrev at : ℕ → Frame
  at j = state_after next j start

  abbrev begun : Frame → Differentiating
  begun f = record { diff_out = f.diff_out; f0 = f.positions.f0_modulation }

  -- what frame j reads
  abbrev reading_at : ℕ → Float
  reading_at j = reading bank (parts_of (moved lp (at j).positions))

  pub positions_after : (j : ℕ) → (at j).positions ≡ state_after (moved lp) j start.positions
  unfolding framed
  positions_after j = part_after next (λ (f : Frame). f.positions) (moved lp) (λ f. refl) j start

  pub holds_after : (size : ℕ) → sum_of next (λ f. (framed bank lp f).holds) size start ≡ sum_of (moved lp) (holds_at lp) size start.positions
  unfolding framed
  holds_after size =
      ap total (part_each next (λ (f : Frame). f.positions) (moved lp) (λ f. (framed bank lp f).holds) (holds_at lp) (λ f. refl) (λ f. refl) size start)

  differentiated_on : (f : Frame) → differentiate (reading bank (parts_of (moved lp f.positions))) (begun f) ≡ begun (next f)
  unfolding framed moved
  differentiated_on f = refl

  sample_on : (f : Frame) → sample_of (reading bank (parts_of (moved lp f.positions))) (begun f) ≡ (framed bank lp f).out
  unfolding framed moved
  sample_on f = refl

  module _ (size : ℕ) (readings : List Float) (same : (j : ℕ) → j < size → get_or readings j nan ≡ reading_at j) where
    pub differentiating_after : (j : ℕ) → j ≤ size → differentiating readings j (begun start) ≡ begun (at j)
    unfolding differentiating state_after
    differentiating_after zero h = refl
    differentiating_after (suc j) h =
        ap (differentiate (get_or readings j nan)) (differentiating_after j (omega arith))
        ∙ ap (λ (x : Float). differentiate x (begun (at j))) (same j (omega arith))
        ∙ differentiated_on (at j)
        ∙ ap begun (sym (after_suc next j start))

    pub sample_at_lem : (j : ℕ) → j < size → sample_of (get_or readings j nan) (differentiating readings j (begun start)) ≡ (framed bank lp (at j)).out
    sample_at_lem j h =
        ap (sample_of (get_or readings j nan)) (differentiating_after j (omega arith))
        ∙ ap (λ (x : Float). sample_of x (begun (at j))) (same j h)
        ∙ sample_on (at j)

  -- the folded corners of frame j
  pub mix_at_lem : (size : ℕ) (r : Block Positions) (keys : List ℕ) (xs ys zs phases corners : List Float)
      → WalkedBy lp start.positions size r keys xs ys zs phases → CornersRead bank keys phases corners size → (j : ℕ) → j < size → mix_at xs ys zs corners j ≡ reading_at j
  unfolding reading
  mix_at_lem size r keys xs ys zs phases corners w c j h =
      rw (
        c.each_read j h,
        w.keys_are.done j h,
        w.phases_are.done j h,
        w.xs_are.done j h,
        w.ys_are.done j h,
        w.zs_are.done j h,
        sym (positions_after j),
        corners_by_key bank (parts_of (moved lp (at j).positions)) (parts_fit _ _ refl),
      )

-- What the stages of a block leave behind them.
pub record Staged (bank : List ℤ) (size : ℕ) (m : SetUp) (d₀ : Differentiator) (r : Block Positions) (d : Differentiator) (out aux : List ℕ) : Type 0 where
  pub keys : List ℕ
  pub xs : List Float
  pub ys : List Float
  pub zs : List Float
  pub phases : List Float
  pub corners : List Float
  pub mixes : List Float
  pub samples : List Float
  pub walked : WalkedBy m.lp_coefficient m.start size r keys xs ys zs phases
  pub corners_are : CornersRead bank keys phases corners size
  pub mixes_are : Filled (mix_at xs ys zs corners) nan mixes size
  pub diff_is : d ≡ (differentiating mixes size (record { diff_out = d₀; f0 = m.start.f0_modulation })).diff_out
  pub samples_are : Filled (λ j. sample_of (get_or mixes j nan) (differentiating mixes j (record { diff_out = d₀; f0 = m.start.f0_modulation }))) nan samples size
  pub out_are : Filled (λ j. to_bits binary32 (get_or samples j nan)) 0 out size
  pub aux_are : Filled (λ j. to_bits binary32 (lofi (get_or samples j nan))) 0 aux size
  pub out_long : length out ≡ size
  pub aux_long : length aux ≡ size

-- said of the set-up by another name
pub set_up_by : (bank : List ℤ) (size : ℕ) (m n : SetUp) (d₀ : Differentiator) (r : Block Positions) (d : Differentiator) (out aux : List ℕ)
    → m ≡ n → Staged bank size m d₀ r d out aux → Staged bank size n d₀ r d out aux
set_up_by bank size m n d₀ r d out aux e g = subst (λ (k : SetUp). Staged bank size k d₀ r d out aux) e g

module _ (bank : List ℤ) (high low : List Float) (size : ℕ) (parameters : EngineParameters) (s : WavetableEngine) where
  abbrev m : SetUp
  m = set_up high low size parameters s

  abbrev lp : Float
  lp = m.lp_coefficient

  abbrev start : Frame
  start = record { positions = m.start; diff_out = s.diff_out }

  module _ (r : Block Positions) (d : Differentiator) (out aux : List ℕ) (g : Staged bank size m s.diff_out r d out aux) where
    same : (j : ℕ) → j < size → get_or g.mixes j nan ≡ reading_at bank lp start j
    same j h = g.mixes_are.done j h ∙ mix_at_lem bank lp start size r _ _ _ _ _ _ g.walked g.corners_are j h

    sample_is : (j : ℕ) → j < size → get_or g.samples j nan ≡ (framed bank lp (at bank lp start j)).out
    sample_is j h = g.samples_are.done j h ∙ sample_at_lem bank lp start size g.mixes same j h

    out_is : out ≡ (rendered bank high low size parameters s).out
    unfolding rendered
    out_is = filled_each _ (to_bits binary32) 0 _ (λ f. (framed bank lp f).out) out size start g.out_long sample_is g.out_are

    aux_is : aux ≡ (rendered bank high low size parameters s).aux
    unfolding rendered framed
    aux_is = filled_each _ (to_bits binary32) 0 _ (λ f. lofi (framed bank lp f).out) aux size start g.aux_long (λ j h. ap lofi (sample_is j h)) g.aux_are

    holds_are : r.holds ≡ (rendered bank high low size parameters s).holds
    unfolding rendered
    holds_are = g.walked.holds_are ∙ sym (holds_after bank lp start size)

    holds_few : AtMost (4 * size) r.holds
    holds_few = rw g.walked.holds_are (most_more (omega arith) (sum_most (moved lp) (holds_at lp) 1 (λ p. frame_most (parts_of (moved lp p))) size m.start))

    end_is : r.state ≡ (at bank lp start size).positions
    end_is = g.walked.end_is ∙ sym (positions_after bank lp start size)

    diff_out_is : d ≡ (at bank lp start size).diff_out
    diff_out_is = g.diff_is ∙ ap (λ (t : Differentiating). t.diff_out) (differentiating_after bank lp start size g.mixes same size (omega arith))

    -- the state that the code makes up
    abbrev left : WavetableEngine
    left =
        record {
          phase = r.state.phase;
          x_pre_lp = m.x_pre_lp;
          y_pre_lp = m.y_pre_lp;
          z_pre_lp = m.z_pre_lp;
          x_lp = r.state.x_lp;
          y_lp = r.state.y_lp;
          z_lp = r.state.z_lp;
          previous_x = r.state.x_modulation.value;
          previous_y = r.state.y_modulation.value;
          previous_z = r.state.z_modulation.value;
          previous_f0 = r.state.f0_modulation.value;
          diff_out = d;
        }

    state_is : left ≡ (rendered bank high low size parameters s).state
    unfolding rendered
    state_is = rw (end_is, diff_out_is)

    pub renders : Renders (rendered bank high low size parameters s) size left r.holds out aux
    renders = record { out_is = out_is; aux_is = aux_is; state_is = state_is; holds_is = holds_are; holds_most = holds_few }
