-- The table of "Calls and their numbers", by the definitions: each fact is a computation.
use Rattle.std.proofs.Common.{◌≡◌, refl, ℕ}
use Rattle.score.specs.declared.refusal.Refusal.TheVariants.{Instrument, Rate, Block, Bank, Map, Rows, Take, Position, Limit, Names, Value, Space, Full, Paper}
use Rattle.score.specs.Numbers.{number_of, place_of}

pub numbers : (place : ℕ)
    → (number_of Instrument ≡ 1) × (number_of Rate ≡ 2) × (number_of Block ≡ 3) × (number_of Bank ≡ 4) × (number_of Map ≡ 5)
    × (number_of Rows ≡ 6) × (number_of Take ≡ 7) × (number_of (Position place) ≡ 8) × (number_of (Limit place) ≡ 9) × (number_of Names ≡ 10)
    × (number_of (Value place) ≡ 11) × (number_of Space ≡ 12) × (number_of Full ≡ 13) × (number_of Paper ≡ 14)
numbers place = (refl, refl, refl, refl, refl, refl, refl, refl, refl, refl, refl, refl, refl, refl)

-- 8, 9 and 11 carry a place, and the others have 0.
pub places : (place : ℕ)
    → (place_of Instrument ≡ 0) × (place_of Rate ≡ 0) × (place_of Block ≡ 0) × (place_of Bank ≡ 0) × (place_of Map ≡ 0)
    × (place_of Rows ≡ 0) × (place_of Take ≡ 0) × (place_of (Position place) ≡ place) × (place_of (Limit place) ≡ place) × (place_of Names ≡ 0)
    × (place_of (Value place) ≡ place) × (place_of Space ≡ 0) × (place_of Full ≡ 0) × (place_of Paper ≡ 0)
places place = (refl, refl, refl, refl, refl, refl, refl, refl, refl, refl, refl, refl, refl, refl)
