-- Document 01, "Path and terrain voice": a block of frames, `render` of `wave_terrain_engine.rs`.
use Rattle.std.specs.Prelude.{ℕ, ◌+◌, ◌*◌, List, ℤ, get_or, Float}
use Rattle.std.specs.Float.{nan, binary32}
use Rattle.std.specs.Float.Ieee.{to_bits}
use Rattle.words.specs.Binary32.{◌⊕◌, ◌⊖◌, ◌⊗◌, ◌⊘◌, decimal, of_count}
use Rattle.words.specs.Parts.{part_of}
use Rattle.words.specs.declared.Part.{Part}
use Rattle.utils.specs.Utils.{abs_of, min_of, max_of}
use Rattle.utils.specs.Units.{note_to_frequency}
use Rattle.utils.specs.Interpolator.{interpolator, stepped}
use Rattle.utils.specs.Holds.{plus}
use Rattle.utils.specs.Frames.{state_after, each_of, sum_of}
use Rattle.utils.specs.Rendered.{Rendered}
use Rattle.utils.specs.declared.holds.Holds.{Holds}
use Rattle.utils.specs.declared.engine.EngineParameters.{EngineParameters}
use Rattle.sine_oscillator.specs.Path.{path_fresh, path_run, path_run2, path_after}
use Rattle.sine_oscillator.specs.Sine.{sine_of}
use Rattle.terrain.specs.Heights.{Reading, terrain_of}
use Rattle.terrain.specs.Layers.{num_terrains, layer_top}
use Rattle.wave_terrain_engine.specs.declared.frames.Interpolators.{Interpolators}
use Rattle.wave_terrain_engine.specs.declared.WaveTerrainEngine.{WaveTerrainEngine}

-- What `init` leaves.
abbrev pub fresh : WaveTerrainEngine
fresh = record { path = path_fresh; offset = decimal 0 0; terrain_idx = decimal 0 0 }

-- "`OVERSAMPLING` is 2 here", and SCALE.
abbrev pub oversampling : ℕ
oversampling = 2

abbrev pub scale : Float
scale = decimal 1 0 ⊘ of_count oversampling

-- ---- A frame. Its state: the interpolators of offset and layer, and the next entry of the path's two runs.

pub record Frame : Type 0 where
  pub at : Interpolators
  pub ij : ℕ

abbrev pub interpolators_next : Interpolators → Interpolators
interpolators_next s = record { offset = stepped s.offset; terrain_idx = stepped s.terrain_idx }

abbrev pub frame_next : Frame → Frame
frame_next s = record { at = interpolators_next s.at; ij = s.ij + oversampling }

-- `x_offset`, and `z_integral` with `z_fractional`: "its fraction is taken against the held number".
abbrev pub offset_of : Interpolators → Float
offset_of s = (stepped s.offset).value

abbrev pub layer_of : ℕ → Interpolators → Part
layer_of top s = part_of top (stepped s.terrain_idx).value

-- x of an oversample, by the path's entry.
abbrev pub shifted_x : Float → Float → Float
shifted_x x x_offset = x ⊗ (decimal 1 0 ⊖ abs_of x_offset) ⊕ x_offset

-- From one height to the next layer's.
abbrev pub between : Float → Float → Float → Float
between z0 z1 fraction = z0 ⊕ (z1 ⊖ z0) ⊗ fraction

-- The two samples of a frame, by y and z of its two oversamples: out, and the phase of aux.
abbrev pub out_of : Float → Float → Float
out_of z z' = scale ⊗ (decimal 0 0 ⊕ z ⊕ z')

abbrev pub phase_of : Float → Float → Float → Float → Float
phase_of y z y' z' = decimal 1 0 ⊕ decimal 5 1 ⊗ scale ⊗ (decimal 0 0 ⊕ (y ⊕ z) ⊕ (y' ⊕ z'))

module _ (sine : List Float) (bank : List ℤ) (map : List ℕ) (run run2 : List Float) where
  -- The height of a layer at entry ij of the runs.
  abbrev pub height_at : Frame → ℕ → ℕ → Reading
  height_at s ij layer = terrain_of sine bank map (shifted_x (get_or run ij nan) (offset_of s.at)) (get_or run2 ij nan) layer

  -- z at entry ij: between the frame's layer and the next.
  abbrev pub z_at : Frame → ℕ → Float
  z_at s ij =
      let layer = layer_of (layer_top map) s.at in
      between (height_at s ij layer.whole).value (height_at s ij (layer.whole + 1)).value layer.fraction

  abbrev pub frame_out : Frame → ℕ
  frame_out s = to_bits binary32 (out_of (z_at s s.ij) (z_at s (s.ij + 1)))

  abbrev pub frame_aux : Frame → ℕ
  frame_aux s =
      to_bits binary32
      (sine_of sine (phase_of (get_or run2 s.ij nan) (z_at s s.ij) (get_or run2 (s.ij + 1) nan) (z_at s (s.ij + 1))))

  -- "that reading adds 1 to `held`": two oversamples of two layers. "what document 01 leaves uncounted stays so": the layer number.
  abbrev pub frame_holds : Frame → Holds
  frame_holds s =
      let layer = (layer_of (layer_top map) s.at).whole in
      plus
      (plus (height_at s s.ij layer).holds (height_at s s.ij (layer + 1)).holds)
      (plus (height_at s (s.ij + 1) layer).holds (height_at s (s.ij + 1) (layer + 1)).holds)

  -- The frame loop: n frames, from the runs' first entry on.
  module _ (start : Interpolators) (n : ℕ) where
    abbrev first_frame : Frame
    first_frame = record { at = start; ij = 0 }

    abbrev pub frames_out : List ℕ
    frames_out = each_of frame_next frame_out n first_frame

    abbrev pub frames_aux : List ℕ
    frames_aux = each_of frame_next frame_aux n first_frame

    abbrev pub frames_holds : Holds
    frames_holds = sum_of frame_next frame_holds n first_frame

-- ---- The block.

-- The path's radius.
abbrev pub radius_of : Float → Float → Float
radius_of f0 timbre =
    let attenuation = max_of (decimal 1 0 ⊖ decimal 8 0 ⊗ f0) (decimal 0 0) in
    decimal 1 1 ⊕ decimal 9 1 ⊗ timbre ⊗ attenuation ⊗ (decimal 2 0 ⊖ attenuation)

-- The frame loop's start: offset and layer are on their way over n frames.
unfoldable pub interpolators_of : List ℕ → EngineParameters → WaveTerrainEngine → ℕ → Interpolators
interpolators_of map p s n =
    record {
      offset = interpolator s.offset (decimal 19 1 ⊗ p.morph ⊖ decimal 1 0) n;
      terrain_idx =
          interpolator s.terrain_idx
          (min_of (p.harmonics ⊗ decimal 105 2) (decimal 1 0) ⊗ (of_count (num_terrains map) ⊖ decimal 10001 4))
          n;
    }

-- `render`, n frames. `sine`, `high` and `low` are the tables of the sine and of the pitch ratios.
unfoldable pub rendered : List ℤ → List ℕ → List Float → List Float → List Float → ℕ → EngineParameters → WaveTerrainEngine → Rendered WaveTerrainEngine
rendered bank map sine high low n p s =
    let f0 = note_to_frequency high low p.note p.a0_normalized in
    let radius = radius_of f0 p.timbre in
    let run = path_run s.path (f0 ⊗ scale) radius (oversampling * n) in
    let run2 = path_run2 s.path (f0 ⊗ scale) radius (oversampling * n) in
    let start = interpolators_of map p s n in
    let end = state_after interpolators_next n start in
    record {
      out = frames_out sine bank map run run2 start n;
      aux = frames_aux sine bank map run run2 start n;
      state =
          record {
            path = path_after s.path (f0 ⊗ scale) radius (oversampling * n);
            offset = end.offset.value;
            terrain_idx = end.terrain_idx.value;
          };
      holds = frames_holds sine bank map run run2 start n;
    }
