-- What the short loops over lent runs leave: frame by frame the values of `Block`, read off the runs that the loop before left.
use Rattle.std.specs.Prelude.{ℕ, ◌+◌, ◌*◌, ◌/◌, List, get_or, Float}
use Rattle.std.specs.Float.{nan, binary32}
use Rattle.std.specs.Float.Ieee.{to_bits}
use Rattle.utils.specs.Frames.{state_after}
use Rattle.sine_oscillator.specs.Sine.{sine_of}
use Rattle.terrain.specs.Heights.{Reading, terrain_of}
use Rattle.terrain.specs.declared.Ground.{Ground}
use Rattle.wave_terrain_engine.specs.Block.{oversampling, interpolators_next, offset_of, layer_of, shifted_x, between, out_of, phase_of}
use Rattle.wave_terrain_engine.specs.declared.frames.Interpolators.{Interpolators}

-- x of oversample j.
abbrev pub stage_x : List Float → Interpolators → ℕ → Float
stage_x run start j = shifted_x (get_or run j nan) (offset_of (state_after interpolators_next (j / oversampling) start))

-- The layer of frame i, whole and fraction.
abbrev pub stage_layer : ℕ → Interpolators → ℕ → ℕ
stage_layer top start i = (layer_of top (state_after interpolators_next i start)).whole

abbrev pub stage_fraction : ℕ → Interpolators → ℕ → Float
stage_fraction top start i = (layer_of top (state_after interpolators_next i start)).fraction

-- The height at oversample j, `up` layers above its frame's.
abbrev pub stage_height : Ground → List Float → List Float → List ℕ → ℕ → ℕ → Reading
stage_height g xs ys layers up j = terrain_of g.sine.now g.bank.now g.map.now (get_or xs j nan) (get_or ys j nan) (get_or layers (j / oversampling) 0 + up)

module _ (ys fractions z0s z1s : List Float) where
  -- z of oversample j of frame i.
  abbrev pub stage_z : ℕ → ℕ → Float
  stage_z i j = between (get_or z0s j nan) (get_or z1s j nan) (get_or fractions i nan)

  -- The out word of frame i, and the phase of its aux.
  abbrev pub stage_out : ℕ → ℕ
  stage_out i = to_bits binary32 (out_of (stage_z i (i * oversampling)) (stage_z i (i * oversampling + 1)))

  abbrev pub stage_phase : ℕ → Float
  stage_phase i = phase_of (get_or ys (i * oversampling) nan) (stage_z i (i * oversampling)) (get_or ys (i * oversampling + 1) nan) (stage_z i (i * oversampling + 1))

-- The aux word of frame i.
abbrev pub stage_aux : List Float → List Float → ℕ → ℕ
stage_aux sine phases i = to_bits binary32 (sine_of sine (get_or phases i nan))
