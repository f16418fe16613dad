-- A reading of the bank: its start is that of the true whole parts, by the law of `Places`, and six entries stand there.
use Rattle.std.proofs.Common.{ap}
use Rattle.std.specs.Float.Ieee.{of_bits}
use Rattle.words.specs.Binary32.{decimal}
use Rattle.terrain.specs.Heights.{Start, terrain_lookup_wt}
use Rattle.terrain.proofs.Places.{bank_cut, start_of_cut, last_wave}
use Rattle.oscillator.proofs.Sizes.{period_float}
use Rattle.terrain.proofs.Ground.terrain_lookup_wt.Goals as goal

pub returns : goal.returns
unfolding terrain_lookup_wt of_bits decimal
returns c =
    let wt = c.coordinate_at-wt.ensures in
    let sample = c.coordinate_at-sample.ensures in
    let place = start_of_cut _ (bank_cut _) _ _ _ _ _ c.bank_place-place.ensures wt.whole_value sample.whole_value in
    let flat = ap (λ (s : Start). s.flat) place in
    let holds = ap (λ (s : Start). s.holds) place in
    rw (
      period_float,
      last_wave,
      c.interpolate_integrated_wave-far.ensures,
      c.interpolate_integrated_wave-near.ensures,
      flat,
      holds,
      wt.fraction_value,
      sample.fraction_value,
    )
