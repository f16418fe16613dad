-- The whole parts come back from the number that holds all four, since each keeps within its top.
use Rattle.std.proofs.Common.{◌≡◌, ◌/◌, ◌%◌, List, arith, ℤ}
use Rattle.wavetable_engine.specs.declared.frames.Parts.{Parts}
use Rattle.waves.specs.Waves.{corners_at}
use Rattle.waves.specs.Stages.{KeyFits, corners_of}
use Rattle.wavetable_engine.specs.Stages.{key_of, PartsFit}

pub key_fits : (p : Parts) → PartsFit p → KeyFits (key_of p)
key_fits p f = record { level = omega arith; phase = omega arith }

pub corners_by_key : (bank : List ℤ) (p : Parts) → PartsFit p
    → corners_of bank (key_of p) p.phase.fraction ≡ corners_at bank p.phase.whole p.phase.fraction p.x.whole p.y.whole p.z.whole
corners_by_key bank p f =
    let phase_is : key_of p / 512 ≡ p.phase.whole = omega arith in
    let x_is : key_of p % 512 % 8 ≡ p.x.whole = omega arith in
    let y_is : key_of p % 512 / 8 % 8 ≡ p.y.whole = omega arith in
    let z_is : key_of p % 512 / 64 ≡ p.z.whole = omega arith in
    rw (phase_is, x_is, y_is, z_is)
