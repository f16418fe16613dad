-- The walk goes on: the positions, what the frames held and the five lists are those of one more frame. And the parts of positions keep within their tops.
use Rattle.std.proofs.Common.{◌≡◌, refl, ap, ◌||◌, List, ℕ, ◌+◌, ◌<◌, length, set, Float}
use Rattle.std.specs.Float.{nan}
use Rattle.words.proofs.Parts.{part_most}
use Rattle.utils.specs.Holds.{none, plus, total, AtMost}
use Rattle.utils.specs.Frames.{state_after, each_of, sum_of}
use Rattle.utils.specs.declared.holds.Holds.{Holds}
use Rattle.utils.proofs.Sums.{most_none, most_frame, most_plus}
use Rattle.utils.proofs.Frames.{after_more, sum_more}
use Rattle.utils.proofs.Runs.{Filling, filling_none, filling_more}
use Rattle.oscillator.specs.Bank.{phase_top}
use Rattle.wavetable_engine.specs.declared.frames.Positions.{Positions}
use Rattle.wavetable_engine.specs.declared.frames.Parts.{Parts}
use Rattle.wavetable_engine.specs.Wavetable.{x_top, y_top, z_top, moved, parts_of, holds_of}
use Rattle.wavetable_engine.specs.Stages.{key_of, parts_at, PartsFit, WalkedBy}

pub parts_fit : (p : Parts) (s : Positions) → p ≡ parts_of s → PartsFit p
unfolding parts_of
parts_fit p s e =
    record {
      x_fits = part_most p.x x_top _ (ap (λ (q : Parts). q.x) e);
      y_fits = part_most p.y y_top _ (ap (λ (q : Parts). q.y) e);
      z_fits = part_most p.z z_top _ (ap (λ (q : Parts). q.z) e);
      phase_fits = part_most p.phase phase_top _ (ap (λ (q : Parts). q.phase) e);
    }

pub frame_most : (p : Parts) → AtMost 1 (holds_of p)
unfolding holds_of
frame_most p = most_frame p.phase.held (p.x.held || p.y.held) p.z.held

-- what the frame that begins with s holds
abbrev pub holds_at : Float → Positions → Holds
holds_at lp s = holds_of (parts_of (moved lp s))

-- the five lists that the walk fills
pub record Lists : Type 0 where
  pub keys : List ℕ
  pub xs : List Float
  pub ys : List Float
  pub zs : List Float
  pub phases : List Float

abbrev pub lists : List ℕ → List Float → List Float → List Float → List Float → Lists
lists keys xs ys zs phases = record { keys = keys; xs = xs; ys = ys; zs = zs; phases = phases }

-- the walk after i frames
pub record Walking (lp : Float) (start : Positions) (l₀ l : Lists) (s : Positions) (holds : Holds) (i : ℕ) : Type 0 where
  pub few : AtMost i holds
  pub state_is : s ≡ state_after (moved lp) i start
  pub holds_are : holds ≡ sum_of (moved lp) (holds_at lp) i start
  pub keys_are : Filling (λ j. key_of (parts_at lp start j)) 0 l₀.keys l.keys i
  pub xs_are : Filling (λ j. (parts_at lp start j).x.fraction) nan l₀.xs l.xs i
  pub ys_are : Filling (λ j. (parts_at lp start j).y.fraction) nan l₀.ys l.ys i
  pub zs_are : Filling (λ j. (parts_at lp start j).z.fraction) nan l₀.zs l.zs i
  pub phases_are : Filling (λ j. (parts_at lp start j).phase.fraction) nan l₀.phases l.phases i

module _ (lp : Float) (start : Positions) (l₀ : Lists) where
  pub begins : Walking lp start l₀ l₀ start none 0
  unfolding state_after each_of total
  begins =
      record {
        few = most_none 0;
        state_is = refl;
        holds_are = refl;
        keys_are = filling_none _ _ l₀.keys;
        xs_are = filling_none _ _ l₀.xs;
        ys_are = filling_none _ _ l₀.ys;
        zs_are = filling_none _ _ l₀.zs;
        phases_are = filling_none _ _ l₀.phases;
      }

  module _ (l : Lists) (s : Positions) (holds : Holds) (i : ℕ) where
    -- the parts of the frame that begins with s
    abbrev here : Parts
    here = parts_of (moved lp s)

    -- the lists with that frame's
    abbrev filled : Lists
    filled =
        record {
          keys = set l.keys i (key_of here);
          xs = set l.xs i here.x.fraction;
          ys = set l.ys i here.y.fraction;
          zs = set l.zs i here.z.fraction;
          phases = set l.phases i here.phase.fraction;
        }

    pub goes_on : i < length l₀.keys → i < length l₀.xs → i < length l₀.ys → i < length l₀.zs → i < length l₀.phases
        → Walking lp start l₀ l s holds i → Walking lp start l₀ filled (moved lp s) (plus holds (holds_of here)) (i + 1)
    goes_on hk hx hy hz hp w =
        let e : parts_of (moved lp s) ≡ parts_at lp start i = ap (λ (t : Positions). parts_of (moved lp t)) w.state_is in
        record {
          few = most_plus w.few (frame_most here);
          state_is = after_more (moved lp) i start s (moved lp s) refl w.state_is;
          holds_are = sum_more (moved lp) (holds_at lp) i start s holds (holds_of here) w.holds_are w.state_is refl;
          keys_are = filling_more _ _ l₀.keys l.keys i _ hk (ap key_of e) w.keys_are;
          xs_are = filling_more _ _ l₀.xs l.xs i _ hx (ap (λ (p : Parts). p.x.fraction) e) w.xs_are;
          ys_are = filling_more _ _ l₀.ys l.ys i _ hy (ap (λ (p : Parts). p.y.fraction) e) w.ys_are;
          zs_are = filling_more _ _ l₀.zs l.zs i _ hz (ap (λ (p : Parts). p.z.fraction) e) w.zs_are;
          phases_are = filling_more _ _ l₀.phases l.phases i _ hp (ap (λ (p : Parts). p.phase.fraction) e) w.phases_are;
        }

    -- after the last frame
    pub ends : Walking lp start l₀ l s holds i → WalkedBy lp start i (record { state = s; holds = holds }) l.keys l.xs l.ys l.zs l.phases
    ends w =
        record {
          end_is = w.state_is;
          holds_are = w.holds_are;
          keys_are = w.keys_are.filled;
          xs_are = w.xs_are.filled;
          ys_are = w.ys_are.filled;
          zs_are = w.zs_are.filled;
          phases_are = w.phases_are.filled;
        }
