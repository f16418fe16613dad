-- Where a reading starts, by its test against the edge, and that it is the same for whole parts that are cut off above every edge: then both are held, or they are one.
use Rattle.std.proofs.Common.{◌≡◌, refl, sym, ap, ◌∙◌, subst, ◌⊎◌, inl, inr, Bool, true, false, ℕ, ◌-◌, ◌≤◌, ◌<◌, min, arith, lt-ltb, le-ltb, ltb-true, ltb-false, ltb, Float}
use Rattle.std.proofs.Math.Nat.{min-eq_left}
use Rattle.std.specs.Float.Ieee.{mul, of_int, round}
use Rattle.words.specs.Binary32.{◌⊖◌, ◌⊗◌, decimal, of_count}
use Rattle.words.specs.Parts.{whole_part, whole_float, part_of}
use Rattle.words.specs.declared.Part.{Part}
use Rattle.terrain.specs.Heights.{Start, Table, held_apart, untouched, start_in, terrain_size, map_table, num_waves, bank_table}
use Rattle.terrain.specs.CutOff.{cut_off}

pub start_past : (t : Table) (x y : ℕ) → t.edge < t.flat x y → start_in t x y ≡ held_apart t x y
unfolding start_in
start_past t x y h = rw (lt-ltb t.edge (t.flat x y) h)

pub start_within : (t : Table) (x y : ℕ) → t.flat x y ≤ t.edge → start_in t x y ≡ untouched t x y
unfolding start_in
start_within t x y h = rw (le-ltb t.edge (t.flat x y) h)

-- what holds of it either way
pub start_has : (P : Start → Type 0) (t : Table) (x y : ℕ) → (t.edge < t.flat x y → P (held_apart t x y)) → (t.flat x y ≤ t.edge → P (untouched t x y)) → P (start_in t x y)
start_has P t x y past within = go (ltb t.edge (t.flat x y)) refl
  where
    go : (b : Bool) → ltb t.edge (t.flat x y) ≡ b → P (start_in t x y)
    go true q = let h = ltb-true t.edge (t.flat x y) q in subst P (sym (start_past t x y h)) (past h)
    go false q = let h = ltb-false t.edge (t.flat x y) q in subst P (sym (start_within t x y h)) (within h)

-- ---- whole parts that are cut off

-- a whole part stays, or is as far as that
cut : (a : ℕ) → (min a cut_off ≡ a) ⊎ (cut_off ≤ a)
cut a = go (ltb cut_off a) refl
  where
    go : (b : Bool) → ltb cut_off a ≡ b → (min a cut_off ≡ a) ⊎ (cut_off ≤ a)
    go true q = let l : cut_off < a = ltb-true cut_off a q in inr (omega arith)
    go false q = inl (min-eq_left (ltb-false cut_off a q))

-- a table in which whole parts from `cut_off` on lie past the edge, and past their own reach
pub record Cut (t : Table) : Type 0 where
  pub x_far : (x y : ℕ) → cut_off ≤ x → t.edge < t.flat x y
  pub y_far : (x y : ℕ) → cut_off ≤ y → t.edge < t.flat x y
  pub x_near : t.x_reach ≤ cut_off
  pub y_near : t.y_reach ≤ cut_off

start_cut : (t : Table) → Cut t → (x y : ℕ) → start_in t (min x cut_off) (min y cut_off) ≡ start_in t x y
start_cut t c x y = pick (cut x) (cut y)
  where
    past : t.edge < t.flat (min x cut_off) (min y cut_off) → t.edge < t.flat x y → start_in t (min x cut_off) (min y cut_off) ≡ start_in t x y
    past h k =
        let x_same : min (min x cut_off) t.x_reach ≡ min x t.x_reach = omega (arith, c.x_near) in
        let y_same : min (min y cut_off) t.y_reach ≡ min y t.y_reach = omega (arith, c.y_near) in
        start_past t (min x cut_off) (min y cut_off) h ∙ rw (x_same, y_same) (sym (start_past t x y k))

    pick : (min x cut_off ≡ x) ⊎ (cut_off ≤ x) → (min y cut_off ≡ y) ⊎ (cut_off ≤ y) → start_in t (min x cut_off) (min y cut_off) ≡ start_in t x y
    pick (inl e) (inl f) = rw (e, f)
    pick (inr h) f = past (c.x_far (min x cut_off) (min y cut_off) (omega arith)) (c.x_far x y h)
    pick (inl e) (inr h) = past (c.y_far (min x cut_off) (min y cut_off) (omega arith)) (c.y_far x y h)

pub map_cut : Cut map_table
map_cut = record { x_far = λ x y h. omega arith; y_far = λ x y h. omega arith; x_near = omega arith; y_near = omega arith }

pub bank_cut : (number : ℕ) → Cut (bank_table number)
bank_cut number = record { x_far = λ x y h. omega arith; y_far = λ x y h. omega arith; x_near = omega arith; y_near = omega arith }

-- a start from cut-off whole parts is that from the true ones
pub start_of_cut : (t : Table) → Cut t → (s : Start) (cx cy x y : ℕ) → s ≡ start_in t cx cy → cx ≡ min x cut_off → cy ≡ min y cut_off → s ≡ start_in t x y
start_of_cut t c s cx cy x y e f g = e ∙ rw (f, g) (start_cut t c x y)

-- a whole part that is not cut off leaves its fraction
pub fraction_within : (far : ℕ) (x : Float) (r : Part) → r ≡ part_of far x → r.held ≡ false → r.fraction ≡ x ⊖ whole_float x
unfolding part_of
fraction_within far x r e h =
    let l : whole_part x ≤ far = ltb-false far (whole_part x) (sym (ap (λ (p : Part). p.held) e) ∙ h) in
    ap (λ (p : Part). p.fraction) e ∙ ap (λ (n : ℕ). x ⊖ of_count n) (min-eq_left l)

pub whole_cut : (far : ℕ) (x : Float) (r : Part) → r ≡ part_of far x → r.whole ≡ min (whole_part x) far
unfolding part_of
whole_cut far x r e = ap (λ (p : Part). p.whole) e

-- ---- the constants that the source computes
pub coord_scale_lem : of_count (terrain_size - 2) ⊗ decimal 5 1 ≡ decimal 31 0
unfolding mul of_int round decimal
coord_scale_lem = refl

pub last_wave : of_count (num_waves - 1) ≡ decimal 63 0
unfolding of_int round decimal
last_wave = refl
