-- The loop that shifts the path's x: each frame fills two entries of x, and one each of the layers and their fractions.
use Rattle.std.proofs.Common.{◌≡◌, refl, ap, ◌∙◌, subst, List, ℕ, ◌+◌, ◌*◌, ◌/◌, ◌<◌, arith, length, get_or, set, Float}
use Rattle.std.specs.Float.{nan}
use Rattle.words.specs.Parts.{part_of}
use Rattle.words.specs.declared.Part.{Part}
use Rattle.utils.specs.Frames.{state_after}
use Rattle.utils.proofs.Frames.{after_more}
use Rattle.utils.proofs.Runs.{Filling, filling_none, filling_more}
use Rattle.wave_terrain_engine.specs.Block.{interpolators_next, shifted_x}
use Rattle.wave_terrain_engine.specs.Stages.{stage_x, stage_layer, stage_fraction}
use Rattle.wave_terrain_engine.specs.declared.frames.Interpolators.{Interpolators}

module _ (top : ℕ) (run : List Float) (s₀ : Interpolators) (xs₀ : List Float) (layers₀ : List ℕ) (fractions₀ : List Float) where
  pub record Shifting (xs : List Float) (layers : List ℕ) (fractions : List Float) (s : Interpolators) (i : ℕ) : Type 0 where
    pub state : s ≡ state_after interpolators_next i s₀
    pub xs_are : Filling (stage_x run s₀) nan xs₀ xs (i * 2)
    pub layers_are : Filling (stage_layer top s₀) 0 layers₀ layers i
    pub fractions_are : Filling (stage_fraction top s₀) nan fractions₀ fractions i

  pub shifting_none : Shifting xs₀ layers₀ fractions₀ s₀ 0
  unfolding state_after
  shifting_none =
      record {
        state = refl;
        xs_are = filling_none (stage_x run s₀) nan xs₀;
        layers_are = filling_none (stage_layer top s₀) 0 layers₀;
        fractions_are = filling_none (stage_fraction top s₀) nan fractions₀;
      }

  module _ (xs : List Float) (layers : List ℕ) (fractions : List Float) (s t : Interpolators) (i : ℕ) (a b : Float) (layer : Part)
      (step : t ≡ interpolators_next s)
      (a_is : a ≡ shifted_x (get_or run (i * 2) nan) t.offset.value)
      (b_is : b ≡ shifted_x (get_or run (i * 2 + 1) nan) t.offset.value)
      (layer_is : layer ≡ part_of top t.terrain_idx.value)
      (xs_room : i * 2 + 1 < length xs₀) (layers_room : i < length layers₀) (fractions_room : i < length fractions₀)
      (p : Shifting xs layers fractions s i) where
    here : t ≡ interpolators_next (state_after interpolators_next i s₀)
    here = step ∙ ap interpolators_next p.state

    x_is : (j : ℕ) (x : Float) → j / 2 ≡ i → x ≡ shifted_x (get_or run j nan) t.offset.value → x ≡ stage_x run s₀ j
    x_is j x e h = h ∙ rw (e, here)

    two_more : Filling (stage_x run s₀) nan xs₀ (set (set xs (i * 2) a) (i * 2 + 1) b) (i * 2 + 1 + 1)
    two_more =
        filling_more (stage_x run s₀) nan xs₀ (set xs (i * 2) a) (i * 2 + 1) b xs_room (x_is (i * 2 + 1) b (omega arith) b_is)
        (filling_more (stage_x run s₀) nan xs₀ xs (i * 2) a (omega arith) (x_is (i * 2) a (omega arith) a_is) p.xs_are)

    pub shifting_more : Shifting (set (set xs (i * 2) a) (i * 2 + 1) b) (set layers i layer.whole) (set fractions i layer.fraction) t (i + 1)
    shifting_more =
        let place : i * 2 + 1 + 1 ≡ (i + 1) * 2 = omega arith in
        record {
          state = after_more interpolators_next i s₀ s t step p.state;
          xs_are = subst (Filling (stage_x run s₀) nan xs₀ (set (set xs (i * 2) a) (i * 2 + 1) b)) place two_more;
          layers_are = filling_more (stage_layer top s₀) 0 layers₀ layers i layer.whole layers_room (rw (layer_is, here)) p.layers_are;
          fractions_are = filling_more (stage_fraction top s₀) nan fractions₀ fractions i layer.fraction fractions_room (rw (layer_is, here)) p.fractions_are;
        }
