-- What was held, of a reading, a frame, a block, a row or a call: document 01's `held`, and beside it document 02's five counts (N5), "phase, wave
-- position (x or y), level (z), map or bank".
use Rattle.std.specs.Prelude.{ℕ, ◌+◌, ◌≤◌, ◌≡◌, Bool, ◌||◌, cond, List, [], ◌∷◌, Option, None, Some}
use Rattle.utils.specs.declared.holds.Holds.{Holds}
use Rattle.utils.specs.declared.holds.Surface.{Surface}
use Rattle.utils.specs.declared.holds.Surface.TheVariants.{Map, Bank}

-- No hold.
abbrev pub none : Holds
none = record { held = 0; phase = 0; wave_position = 0; level = 0; map = 0; bank = 0 }

-- 1 where something was held.
abbrev pub once : Bool → ℕ
once held = cond held 1 0

-- A frame of the wavetable voice or of the plain oscillator: "A frame with any hold adds 1 to `held`", which "keeps its old meaning"; and it "may
-- have several kinds; it counts once in each".
unfoldable pub of_frame : Bool → Bool → Bool → Holds
of_frame phase position level =
    record {
      held = once (phase || position || level);
      phase = once phase;
      wave_position = once position;
      level = once level;
      map = 0;
      bank = 0;
    }

-- A reading of the map, and of the bank as a terrain, that was held: "that reading adds 1 to `held`".
abbrev pub of_map : Holds
of_map = record { held = 1; phase = 0; wave_position = 0; level = 0; map = 1; bank = 0 }

abbrev pub of_bank : Holds
of_bank = record { held = 1; phase = 0; wave_position = 0; level = 0; map = 0; bank = 1 }

-- A reading, by what it was held on, if it was.
abbrev pub of_reading : Option Surface → Holds
of_reading None = none
of_reading (Some Map) = of_map
of_reading (Some Bank) = of_bank

-- The holds of two together.
unfoldable pub plus : Holds → Holds → Holds
plus a b =
    record {
      held = a.held + b.held;
      phase = a.phase + b.phase;
      wave_position = a.wave_position + b.wave_position;
      level = a.level + b.level;
      map = a.map + b.map;
      bank = a.bank + b.bank;
    }

-- The holds of all: of a block's frames, of rows, of calls.
unfoldable pub total : List Holds → Holds
total [] = none
total (h ∷ l) = plus h (total l)

-- No count is above n.
pub record AtMost (n : ℕ) (h : Holds) : Type 0 where
  pub held_most : h.held ≤ n
  pub phase_most : h.phase ≤ n
  pub position_most : h.wave_position ≤ n
  pub level_most : h.level ≤ n
  pub map_most : h.map ≤ n
  pub bank_most : h.bank ≤ n

-- The largest count that a usize has.
abbrev pub most_count : ℕ
most_count = 18446744073709551615

-- ---- What the counts have to do with `held`.

-- Of frames, any number: each count is at most `held`, and `held` at most their sum. They hold no map and no bank.
pub record OfFrames (h : Holds) : Type 0 where
  pub phase_within : h.phase ≤ h.held
  pub position_within : h.wave_position ≤ h.held
  pub level_within : h.level ≤ h.held
  pub held_within : h.held ≤ h.phase + h.wave_position + h.level
  pub no_map : h.map ≡ 0
  pub no_bank : h.bank ≡ 0

-- Of readings of the terrain voice: `held` is map plus bank, and nothing else is held.
pub record OfReadings (h : Holds) : Type 0 where
  pub held_is : h.held ≡ h.map + h.bank
  pub no_phase : h.phase ≡ 0
  pub no_position : h.wave_position ≡ 0
  pub no_level : h.level ≡ 0
