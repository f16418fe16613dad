-- Wave numbers: the waves of the eight corners from that of the nearest, by steps along x and y, and that each wave lies in the bank.
use Rattle.std.proofs.Common.{◌≡◌, Bool, true, false, cond, ℕ, ◌+◌, ◌*◌, ◌%◌, ◌<◌, arith, eqb, ne_eqb}
use Rattle.oscillator.specs.Bank.{waves}
use Rattle.waves.specs.Waves.{wave, spread}

pub wave_below : (x y z : ℕ) → wave x y z < waves
unfolding wave
wave_below x y z = omega arith

step_by : (b : Bool) (x y z : ℕ) → ((x + y * 8 + z * 64) * cond b 101 1 % waves + cond b 101 1) % waves ≡ (x + 1 + y * 8 + z * 64) * cond b 101 1 % waves
step_by true x y z = omega arith
step_by false x y z = omega arith

-- the next wave along x
pub wave_along_x : (x y z : ℕ) → (wave x y z + spread z) % waves ≡ wave (x + 1) y z
unfolding wave
wave_along_x x y z = step_by (eqb z 3) x y z

rise_by : (b : Bool) (x y z : ℕ) → ((x + y * 8 + z * 64) * cond b 101 1 % waves + 8 * cond b 101 1 % waves) % waves ≡ (x + (y + 1) * 8 + z * 64) * cond b 101 1 % waves
rise_by true x y z = omega arith
rise_by false x y z = omega arith

-- the next wave along y
pub wave_along_y : (x y z : ℕ) → (wave x y z + 8 * spread z % waves) % waves ≡ wave x (y + 1) z
unfolding wave
wave_along_y x y z = rise_by (eqb z 3) x y z

pub wave_low : (x y z : ℕ) → x < 8 → y < 8 → z < 4 → (z ≡ 3 → ⊥) → wave x y z ≡ x + y * 8 + z * 64
unfolding wave
wave_low x y z p q r n =
    let l : z < 3 = omega (arith, n) in
    rw (ne_eqb z 3 n) (omega arith)

pub wave_top : (x y : ℕ) → wave x y 3 ≡ (x + y * 8) * 101 % waves
unfolding wave
wave_top x y = omega arith

pub spread_below : (z : ℕ) → spread z < waves
spread_below z = below (eqb z 3)
  where
    below : (b : Bool) → cond b 101 1 < waves
    below true = omega arith
    below false = omega arith
