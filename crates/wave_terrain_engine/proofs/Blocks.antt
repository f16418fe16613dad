-- The short loops, one after the other, leave what the frame loop does: entry by entry they read what the frame with that entry reads.
use Rattle.std.proofs.Common.{◌≡◌, refl, sym, ap, ◌∙◌, List, ℕ, zero, suc, ◌+◌, ◌*◌, ◌/◌, ◌≤◌, ◌<◌, add-zero, arith, ℤ, length, get_or, take, ext_get_or, Float, to_bits}
use Rattle.std.specs.Float.{nan, binary32}
use Rattle.words.proofs.Parts.{held_most}
use Rattle.utils.specs.Interpolator.{stepped}
use Rattle.utils.specs.Holds.{plus, AtMost}
use Rattle.utils.specs.Frames.{state_after, each_of, sum_of, Filled}
use Rattle.utils.specs.Rendered.{Renders}
use Rattle.utils.specs.declared.holds.Holds.{Holds}
use Rattle.utils.proofs.Sums.{most_more, most_plus}
use Rattle.utils.proofs.Frames.{part_after, each_length, each_at}
use Rattle.words.specs.Binary32.{◌⊗◌}
use Rattle.utils.specs.Units.{note_to_frequency}
use Rattle.utils.specs.declared.engine.EngineParameters.{EngineParameters}
use Rattle.sine_oscillator.specs.Path.{path_run, path_run2, path_after}
use Rattle.sine_oscillator.specs.Sine.{sine_of}
use Rattle.sine_oscillator.specs.declared.FastSineOscillator.{FastSineOscillator}
use Rattle.terrain.specs.Heights.{Reading}
use Rattle.terrain.specs.Layers.{layer_top}
use Rattle.terrain.specs.declared.Ground.{Ground}
use Rattle.wave_terrain_engine.specs.declared.WaveTerrainEngine.{WaveTerrainEngine}
use Rattle.wave_terrain_engine.specs.Block.{
  Frame,
  interpolators_next,
  frame_next,
  layer_of,
  height_at,
  z_at,
  frame_out,
  frame_aux,
  frame_holds,
  frames_out,
  frames_aux,
  frames_holds,
  scale,
  radius_of,
  interpolators_of,
  rendered,
}
use Rattle.wave_terrain_engine.specs.Stages.{stage_x, stage_layer, stage_fraction, stage_height, stage_z, stage_out, stage_phase, stage_aux}
use Rattle.wave_terrain_engine.specs.declared.frames.Interpolators.{Interpolators}
use Rattle.wave_terrain_engine.proofs.Counts.{count_pairs}

-- what the frame loop leaves
pub record FramesDone (g : Ground) (run run2 : List Float) (start : Interpolators) (n : ℕ) (holds : Holds) (out aux : List ℕ) : Type 0 where
  pub out_is : out ≡ frames_out g.sine.now g.bank.now g.map.now run run2 start n
  pub aux_is : aux ≡ frames_aux g.sine.now g.bank.now g.map.now run run2 start n
  pub holds_are : holds ≡ frames_holds g.sine.now g.bank.now g.map.now run run2 start n
  pub holds_most : AtMost (4 * n) holds

-- a layer and the next one, or the same, are within
pub layer_fits : (map layers : List ℕ) (start : Interpolators) (n up j : ℕ)
    → Filled (stage_layer (layer_top map) start) 0 layers n → j < n * 2 → up ≤ 1 → get_or layers (j / 2) 0 + up ≤ layer_top map + 1
layer_fits map layers start n up j p l u =
    let k : get_or layers (j / 2) 0 ≡ stage_layer (layer_top map) start (j / 2) = p.done (j / 2) (omega arith) in
    omega (arith, k, held_most (layer_top map) (stepped (state_after interpolators_next (j / 2) start).terrain_idx).value)

entry_of : (i : ℕ) (f : Frame) → (state_after frame_next i f).ij ≡ f.ij + i * 2
unfolding state_after
entry_of zero f = omega arith
entry_of (suc i) f = entry_of i (frame_next f) ∙ omega arith

module _ (g : Ground) (run run2 : List Float) (start : Interpolators) (n : ℕ) where
  abbrev sine : List Float
  sine = g.sine.now

  abbrev bank : List ℤ
  bank = g.bank.now

  abbrev map : List ℕ
  map = g.map.now

  abbrev first : Frame
  first = record { at = start; ij = 0 }

  abbrev frame_at : ℕ → Frame
  frame_at i = state_after frame_next i first

  at_is : (i : ℕ) → (frame_at i).at ≡ state_after interpolators_next i start
  at_is i = part_after frame_next (λ (f : Frame). f.at) interpolators_next (λ f. refl) i first

  ij_is : (i : ℕ) → (frame_at i).ij ≡ i * 2
  ij_is i = entry_of i first ∙ omega arith

  -- what the loops leave, each by the runs that it reads
  pub record Staged (r1 r2 xs fractions z0s z1s phases : List Float) (layers out aux : List ℕ) (holds holds' : Holds) : Type 0 where
    pub run_is : (j : ℕ) → j < n * 2 → get_or r1 j nan ≡ get_or run j nan
    pub run2_is : (j : ℕ) → j < n * 2 → get_or r2 j nan ≡ get_or run2 j nan
    pub xs_are : Filled (stage_x r1 start) nan xs (n * 2)
    pub layers_are : Filled (stage_layer (layer_top map) start) 0 layers n
    pub fractions_are : Filled (stage_fraction (layer_top map) start) nan fractions n
    pub z0s_are : Filled (λ j. (stage_height g xs r2 layers 0 j).value) nan z0s (n * 2)
    pub holds_are : holds ≡ sum_of suc (λ j. (stage_height g xs r2 layers 0 j).holds) (n * 2) 0
    pub holds_most : AtMost (n * 2) holds
    pub z1s_are : Filled (λ j. (stage_height g xs r2 layers 1 j).value) nan z1s (n * 2)
    pub holds'_are : holds' ≡ sum_of suc (λ j. (stage_height g xs r2 layers 1 j).holds) (n * 2) 0
    pub holds'_most : AtMost (n * 2) holds'
    pub phases_are : Filled (stage_phase r2 fractions z0s z1s) nan phases n
    pub out_is : Filled (stage_out r2 fractions z0s z1s) 0 out n
    pub aux_is : Filled (stage_aux sine phases) 0 aux n
    pub out_long : length out ≡ n
    pub aux_long : length aux ≡ n

  module _ (r1 r2 xs fractions z0s z1s phases : List Float) (layers out aux : List ℕ) (holds holds' : Holds)
      (p : Staged r1 r2 xs fractions z0s z1s phases layers out aux holds holds') where
    -- the height at oversample j
    abbrev height : ℕ → ℕ → Reading
    height up j = stage_height g xs r2 layers up j

    -- an oversample's height is the frame's
    height_is : (i j up : ℕ) → i < n → j / 2 ≡ i → height up j ≡ height_at sine bank map run run2 (frame_at i) j ((layer_of (layer_top map) (frame_at i).at).whole + up)
    height_is i j up l e =
        let x : get_or xs j nan ≡ stage_x r1 start j = p.xs_are.done j (omega arith) in
        let k : get_or layers (j / 2) 0 ≡ stage_layer (layer_top map) start i = rw e (p.layers_are.done i l) in
        rw (x, k, e, at_is i, p.run_is j (omega arith), p.run2_is j (omega arith))

    height_same : (i j : ℕ) → i < n → j / 2 ≡ i → height 0 j ≡ height_at sine bank map run run2 (frame_at i) j (layer_of (layer_top map) (frame_at i).at).whole
    height_same i j l e = height_is i j 0 l e ∙ ap (height_at sine bank map run run2 (frame_at i) j) (add-zero _)

    z_is : (i j : ℕ) → i < n → j / 2 ≡ i → stage_z r2 fractions z0s z1s i j ≡ z_at sine bank map run run2 (frame_at i) j
    z_is i j l e =
        let z0 = p.z0s_are.done j (omega arith) ∙ ap (λ (r : Reading). r.value) (height_same i j l e) in
        let z1 = p.z1s_are.done j (omega arith) ∙ ap (λ (r : Reading). r.value) (height_is i j 1 l e) in
        let f = p.fractions_are.done i l in
        rw (z0, z1, f, at_is i)

    out_at : (i : ℕ) → i < n → stage_out r2 fractions z0s z1s i ≡ frame_out sine bank map run run2 (frame_at i)
    out_at i l = rw (ij_is i, z_is i (i * 2) l (omega arith), z_is i (i * 2 + 1) l (omega arith))

    phase_at : (i : ℕ) → i < n → to_bits binary32 (sine_of sine (stage_phase r2 fractions z0s z1s i)) ≡ frame_aux sine bank map run run2 (frame_at i)
    phase_at i l = rw (ij_is i, p.run2_is (i * 2) (omega arith), p.run2_is (i * 2 + 1) (omega arith), z_is i (i * 2) l (omega arith), z_is i (i * 2 + 1) l (omega arith))

    holds_at_lem : (i : ℕ) → i < n
        → frame_holds sine bank map run run2 (frame_at i) ≡ plus (plus (height 0 (i * 2)).holds (height 1 (i * 2)).holds) (plus (height 0 (i * 2 + 1)).holds (height 1 (i * 2 + 1)).holds)
    holds_at_lem i l =
        let even = i * 2 in
        let odd = i * 2 + 1 in
        rw (ij_is i, height_same i even l (omega arith), height_is i even 1 l (omega arith), height_same i odd l (omega arith), height_is i odd 1 l (omega arith))

    aux_at : (i : ℕ) → i < n → stage_aux sine phases i ≡ frame_aux sine bank map run run2 (frame_at i)
    aux_at i l = ap (λ (x : Float). to_bits binary32 (sine_of sine x)) (p.phases_are.done i l) ∙ phase_at i l

    filled_to : (f : ℕ → ℕ) (g : Frame → ℕ) (ws : List ℕ) → length ws ≡ n → ((i : ℕ) → i < n → f i ≡ g (frame_at i)) → Filled f 0 ws n → ws ≡ each_of frame_next g n first
    filled_to f g ws e h q =
        ext_get_or 0 ws (each_of frame_next g n first) (e ∙ sym (each_length frame_next g n first))
        (λ i l. let k : i < n = rw e at l in q.done i k ∙ h i k ∙ sym (each_at frame_next g 0 n first i k))

    pub staged_frames : FramesDone g run run2 start n (plus holds holds') out aux
    staged_frames =
        record {
          out_is = filled_to (stage_out r2 fractions z0s z1s) (frame_out sine bank map run run2) out p.out_long out_at p.out_is;
          aux_is = filled_to (stage_aux sine phases) (frame_aux sine bank map run run2) aux p.aux_long aux_at p.aux_is;
          holds_are = rw (p.holds_are, p.holds'_are) (sym (count_pairs frame_next (frame_holds sine bank map run run2) first _ _ n holds_at_lem));
          holds_most = most_more (omega arith) (most_plus p.holds_most p.holds'_most);
        }

-- the path, then the frames: the block
module _ (g : Ground) (high low : List Float) (n : ℕ) (p : EngineParameters) (s : WaveTerrainEngine)
    (f0 half radius : Float) (path : FastSineOscillator) (r1 r2 : List Float) (start end : Interpolators) (holds : Holds) (out aux : List ℕ)
    (f0_is : f0 ≡ note_to_frequency high low p.note p.a0_normalized)
    (half_is : half ≡ scale)
    (radius_is : radius ≡ radius_of f0 p.timbre)
    (path_is : path ≡ path_after s.path (f0 ⊗ half) radius (2 * n))
    (r1_is : take (2 * n) r1 ≡ path_run s.path (f0 ⊗ half) radius (2 * n))
    (r2_is : take (2 * n) r2 ≡ path_run2 s.path (f0 ⊗ half) radius (2 * n))
    (start_is : start ≡ interpolators_of g.map.now p s n)
    (end_is : end ≡ state_after interpolators_next n start)
    (done : FramesDone g (take (2 * n) r1) (take (2 * n) r2) start n holds out aux) where
  abbrev left : WaveTerrainEngine
  left = record { path = path; offset = end.offset.value; terrain_idx = end.terrain_idx.value }

  pub block_renders : Renders (rendered g.bank.now g.map.now g.sine.now high low n p s) n left holds out aux
  unfolding rendered
  block_renders =
      record {
        out_is = done.out_is ∙ rw (r1_is, r2_is, start_is, radius_is, half_is, f0_is);
        aux_is = done.aux_is ∙ rw (r1_is, r2_is, start_is, radius_is, half_is, f0_is);
        state_is = rw (path_is, end_is, start_is, radius_is, half_is, f0_is);
        holds_is = done.holds_are ∙ rw (r1_is, r2_is, start_is, radius_is, half_is, f0_is);
        holds_most = done.holds_most;
      }
