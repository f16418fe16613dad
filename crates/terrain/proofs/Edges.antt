-- The claims on edges: each edge is where the Rust would read past the end, and the reaches lie before it.
use Rattle.std.proofs.Common.{◌≡◌, refl, sym, subst, ℕ, ◌+◌, ◌*◌, ◌%◌, ◌≤◌, ◌<◌, arith}
use Rattle.oscillator.specs.Bank.{bank_length, wave_length}
use Rattle.terrain.specs.Heights.{Start, Table, held_apart, start_in, map_length, terrain_size, map_table, num_waves, bank_table}
use Rattle.terrain.specs.Edges.{Edges, MapEdges, BankEdges}
use Rattle.terrain.specs.Held.{start_of}
use Rattle.terrain.specs.declared.Place.{Place}
use Rattle.terrain.proofs.Places.{start_past, start_within, start_has}

-- of any table with its edge there, whose reaches lie in the terrain and before a row's end
edges_of : (t : Table) (length width along first last : ℕ) → t.edge + width + along + 1 ≡ length → last ≤ length
    → ((x y : ℕ) → (first ≤ (held_apart t x y).flat) × ((held_apart t x y).flat + width + along < last))
    → ((x y : ℕ) → (held_apart t x y).flat % width + along < width) → Edges t length width along first last
edges_of t length width along first last ends most lies row =
    record {
      completed = λ x y h. start_within t x y (omega arith);
      held = λ x y h. start_past t x y (omega arith);
      inside = λ x y. start_has (λ (s : Start). s.flat + width + along < length) t x y (λ h. omega (arith, lies x y)) (λ h. omega arith);
      chosen = λ x y h. rw (start_past t x y (omega arith)) (lies x y);
      in_row = λ x y h. rw (start_past t x y (omega arith)) (row x y);
    }

pub map_edges : MapEdges
map_edges = edges_of map_table map_length terrain_size 1 0 map_length refl (omega arith) (λ x y. omega arith) (λ x y. omega arith)

pub bank_edges : BankEdges
bank_edges number few =
    let first = num_waves * wave_length * number in
    edges_of (bank_table number) bank_length wave_length 2 first (num_waves * wave_length * (number + 1)) refl (omega arith) (λ x y. omega arith) (λ x y. omega arith)

-- a place of the code
place_inside : (t : Table) (length width along first last : ℕ) → Edges t length width along first last
    → (p : Place) (x y : ℕ) → start_of p ≡ start_in t x y → p.flat + width + along < length
place_inside t length width along first last e p x y q = subst (λ (s : Start). s.flat + width + along < length) (sym q) (e.inside x y)

pub map_inside : (p : Place) (x y : ℕ) → start_of p ≡ start_in map_table x y → p.flat + terrain_size + 1 < map_length
map_inside = place_inside map_table map_length terrain_size 1 0 map_length map_edges

pub bank_inside : (number : ℕ) → number ≤ 2 → (p : Place) (x y : ℕ) → start_of p ≡ start_in (bank_table number) x y → p.flat + wave_length + 2 < bank_length
bank_inside number few = place_inside (bank_table number) bank_length wave_length 2 (num_waves * wave_length * number) (num_waves * wave_length * (number + 1)) (bank_edges number few)
