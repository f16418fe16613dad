-- What the five counts have to do with `held` goes over from one frame or reading to sums of them.
use Rattle.std.proofs.Common.{◌≡◌, Bool, true, false, cond, ℕ, zero, suc, ◌+◌, ◌≤◌, arith}
use Rattle.utils.specs.Holds.{none, of_frame, of_map, of_bank, plus, total, OfFrames, OfReadings}
use Rattle.utils.specs.Frames.{each_of, sum_of}
use Rattle.utils.specs.declared.holds.Holds.{Holds}

-- one of two things
pub either : {A : Type 0} (P : A → Type 0) (b : Bool) (x y : A) → P x → P y → P (cond b x y)
either P true x y p q = p
either P false x y p q = q

-- Something that sums have where their parts do.
pub record Summed (P : Holds → Type 0) : Type 0 where
  pub of_none : P none
  pub of_plus : (a b : Holds) → P a → P b → P (plus a b)

module _ (P : Holds → Type 0) (summed : Summed P) where
  -- the frames of a block
  pub sum_has : {S : Type 0} (next : S → S) (f : S → Holds) → ((s : S) → P (f s)) → (n : ℕ) (s : S) → P (sum_of next f n s)
  unfolding each_of total
  sum_has next f h zero s = summed.of_none
  sum_has next f h (suc n) s = summed.of_plus (f s) (sum_of next f n (next s)) (h s) (sum_has next f h n (next s))

-- ---- frames

frames_of : {h : Holds}
    → (h.phase ≤ h.held)
    × ((h.wave_position ≤ h.held)
    × ((h.level ≤ h.held) × ((h.held ≤ h.phase + h.wave_position + h.level) × ((h.map ≡ 0) × (h.bank ≡ 0)))))
    → OfFrames h
frames_of p =
    record {
      phase_within = p.0;
      position_within = p.1.0;
      level_within = p.1.1.0;
      held_within = p.1.1.1.0;
      no_map = p.1.1.1.1.0;
      no_bank = p.1.1.1.1.1;
    }

pub frames_summed : Summed OfFrames
unfolding plus
frames_summed = record { of_none = frames_of (omega arith); of_plus = λ a b p q. frames_of (omega (arith, p, q)) }

pub frame_kinds : (phase position level : Bool) → OfFrames (of_frame phase position level)
unfolding of_frame
frame_kinds true true true = frames_of (omega arith)
frame_kinds true true false = frames_of (omega arith)
frame_kinds true false true = frames_of (omega arith)
frame_kinds true false false = frames_of (omega arith)
frame_kinds false true true = frames_of (omega arith)
frame_kinds false true false = frames_of (omega arith)
frame_kinds false false true = frames_of (omega arith)
frame_kinds false false false = frames_of (omega arith)

-- ---- readings

readings_of : {h : Holds} → (h.held ≡ h.map + h.bank) × ((h.phase ≡ 0) × ((h.wave_position ≡ 0) × (h.level ≡ 0))) → OfReadings h
readings_of p = record { held_is = p.0; no_phase = p.1.0; no_position = p.1.1.0; no_level = p.1.1.1 }

pub readings_summed : Summed OfReadings
unfolding plus
readings_summed = record { of_none = readings_of (omega arith); of_plus = λ a b p q. readings_of (omega (arith, p, q)) }

pub map_kinds : OfReadings of_map
map_kinds = readings_of (omega arith)

pub bank_kinds : OfReadings of_bank
bank_kinds = readings_of (omega arith)
