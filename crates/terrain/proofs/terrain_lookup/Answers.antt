-- A reading of the map: its start is that of the true whole parts, by the law of `Places`, and four entries stand there.
use Rattle.std.proofs.Common.{ap}
use Rattle.std.specs.Float.Ieee.{of_bits}
use Rattle.words.specs.Binary32.{decimal}
use Rattle.terrain.specs.Heights.{Start, terrain_lookup}
use Rattle.terrain.proofs.Places.{map_cut, start_of_cut, coord_scale_lem}
use Rattle.terrain.proofs.terrain_lookup.Goals as goal

pub returns : goal.returns
unfolding terrain_lookup of_bits decimal
returns c =
    let cy = c.coordinate_at-cy.ensures in
    let cx = c.coordinate_at-cx.ensures in
    let place = start_of_cut _ map_cut _ _ _ _ _ c.map_place-place.ensures cx.whole_value cy.whole_value in
    let flat = ap (λ (s : Start). s.flat) place in
    let holds = ap (λ (s : Start). s.holds) place in
    rw (coord_scale_lem, c.interpolate_wave-far.ensures, c.interpolate_wave-near.ensures, flat, holds, cx.fraction_value, cy.fraction_value)
