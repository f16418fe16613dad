-- Document 02, N6: what is claimed of every reading, for all whole parts of x and y, and so for every state.
use Rattle.std.specs.Prelude.{ℕ, ◌≡◌, ◌+◌, ◌*◌, ◌%◌, ◌≤◌, ◌<◌}
use Rattle.utils.specs.Holds.{none}
use Rattle.oscillator.specs.Bank.{bank_length, wave_length}
use Rattle.terrain.specs.Heights.{Table, held_apart, start_in, map_length, terrain_size, map_table, num_waves, bank_table}

-- A table of `length` entries in rows of `width`, of which those from `first` to before `last` are the terrain that is read.
-- A reading takes the entries from its start to `along` after it, and those a row later.
pub record Edges (t : Table) (length width along first last : ℕ) : Type 0 where
  -- "Readings that the Rust completes are untouched, even those that run over a row's end."
  pub completed : (x y : ℕ) → t.flat x y + width + along < length → start_in t x y ≡ record { flat = t.flat x y; holds = none }
  -- "where the Rust would read past the end, the two whole parts are held apart", and the hold is the table's.
  pub held : (x y : ℕ) → length ≤ t.flat x y + width + along → start_in t x y ≡ held_apart t x y
  -- So each reading lies inside its table;
  pub inside : (x y : ℕ) → (start_in t x y).flat + width + along < length
  -- a held one lies in the terrain that is read,
  pub chosen : (x y : ℕ) → length ≤ t.flat x y + width + along → (first ≤ (start_in t x y).flat) × ((start_in t x y).flat + width + along < last)
  -- where it runs over no row's end.
  pub in_row : (x y : ℕ) → length ≤ t.flat x y + width + along → (start_in t x y).flat % width + along < width

-- The map: rows of 64 bytes, of which a reading takes 2.
abbrev pub MapEdges : Type 0
MapEdges = Edges map_table map_length terrain_size 1 0 map_length

-- Each of the bank's three terrains: waves of 132 samples, of which a reading takes 3.
abbrev pub BankEdges : Type 0
BankEdges = (number : ℕ) → number ≤ 2 → Edges (bank_table number) bank_length wave_length 2 (num_waves * wave_length * number) (num_waves * wave_length * (number + 1))
