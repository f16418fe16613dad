-- Which layers there are: the map's is there only with a map. And what a layer holds.
use Rattle.std.proofs.Common.{◌≡◌, refl, ◌⊎◌, inl, inr, Bool, true, false, cond, List, ℕ, ◌+◌, ◌-◌, ◌≤◌, arith, eqb, leb, ℤ, length, Float, Some}
use Rattle.std.proofs.lemmas.Bool.{eqb-false}
use Rattle.utils.specs.Holds.{none, of_reading, AtMost, OfReadings}
use Rattle.utils.specs.declared.holds.Holds.{Holds}
use Rattle.utils.specs.declared.holds.Surface.TheVariants.{Map, Bank}
use Rattle.utils.proofs.Sums.{most_none, most_reading}
use Rattle.utils.proofs.Summing.{either, readings_summed, map_kinds, bank_kinds}
use Rattle.terrain.specs.Layers.{Lent, top, top_with_map, layer_top}
use Rattle.terrain.proofs.Places.{start_has}
use Rattle.terrain.specs.Heights.{
  Reading,
  Start,
  map_length,
  map_table,
  terrain_lookup,
  bank_table,
  last_bank_layer,
  map_layer,
  terrain_lookup_wt,
  terrain_of,
}

either_top : (b : Bool) → cond b top top_with_map ≤ top_with_map
either_top true = omega arith
either_top false = omega arith

pub top_most : (map : List ℕ) → layer_top map ≤ top_with_map
top_most map = either_top (eqb (length map) 0)

past_bank : (b : Bool) (i : ℕ) → i ≤ cond b top top_with_map + 1 → map_layer ≤ i → (b ≡ false) × (i ≡ map_layer)
past_bank true i h l = absurd (omega arith)
past_bank false i h l = (refl, omega arith)

pub map_layer_lem : (map : List ℕ) (i : ℕ) → i ≤ layer_top map + 1 → map_layer ≤ i → i ≡ map_layer
map_layer_lem map i h l = (past_bank (eqb (length map) 0) i h l).1

pub map_there : (bank : List ℤ) (map : List ℕ) (i : ℕ) → Lent bank map → i ≤ layer_top map + 1 → map_layer ≤ i → length map ≡ map_length
map_there bank map i lent h l = pick lent.map_long
  where
    pick : (length map ≡ 0) ⊎ (length map ≡ map_length) → length map ≡ map_length
    pick (inl e) = absurd (eqb-false (length map) 0 (past_bank (eqb (length map) 0) i h l).0 e)
    pick (inr e) = e

-- ---- what a layer holds: nothing, or once the map or the bank

-- something that each of the three has
module _ (P : Holds → Type 0) (none_has : P none) (map_has : P (of_reading (Some Map))) (bank_has : P (of_reading (Some Bank))) where
  layer : (b : Bool) (r q : Reading) → P r.holds → P q.holds → P (cond b r q).holds
  layer = either (λ (r : Reading). P r.holds)

  map_held : (map : List ℕ) (x y : Float) → P (terrain_lookup map x y).holds
  unfolding terrain_lookup
  map_held map x y = start_has (λ (s : Start). P s.holds) map_table _ _ (λ h. map_has) (λ h. none_has)

  bank_held : (bank : List ℤ) (x y : Float) (number : ℕ) → P (terrain_lookup_wt bank x y number).holds
  unfolding terrain_lookup_wt
  bank_held bank x y number = start_has (λ (s : Start). P s.holds) (bank_table number) _ _ (λ h. bank_has) (λ h. none_has)

  terrain_has : (sine : List Float) (bank : List ℤ) (map : List ℕ) (x y : Float) (i : ℕ) → P (terrain_of sine bank map x y i).holds
  unfolding terrain_of
  terrain_has sine bank map x y i =
      layer (eqb i 0) _ _ none_has
      (layer (eqb i 1) _ _ none_has
      (layer (eqb i 2) _ _ none_has
      (layer (eqb i 3) _ _ none_has
      (layer (eqb i 4) _ _ none_has
      (layer (leb i last_bank_layer) _ _ (bank_held bank x y (last_bank_layer - i))
      (layer (eqb i map_layer) _ _ (map_held map x y) none_has))))))

pub terrain_held : (sine : List Float) (bank : List ℤ) (map : List ℕ) (x y : Float) (i : ℕ) → AtMost 1 (terrain_of sine bank map x y i).holds
terrain_held = terrain_has (AtMost 1) (most_none 1) (most_reading (Some Map)) (most_reading (Some Bank))

pub terrain_kinds : (sine : List Float) (bank : List ℤ) (map : List ℕ) (x y : Float) (i : ℕ) → OfReadings (terrain_of sine bank map x y i).holds
terrain_kinds = terrain_has OfReadings readings_summed.of_none map_kinds bank_kinds
