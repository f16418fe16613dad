-- Document 01, "Bench values", of the map's edge, as document 02, N6, has it, and more of the kind, computed.
use Rattle.std.proofs.Common.{◌≡◌, refl}
use Rattle.utils.specs.Holds.{none, of_map, of_bank}
use Rattle.terrain.specs.Heights.{start_in, map_table, bank_table}

-- "Flat 4,032 from y 63 and x 0 now becomes 3,968"
map_flat_4032 : start_in map_table 0 63 ≡ record { flat = 3968; holds = of_map }
unfolding start_in
map_flat_4032 = refl

-- the map's far corner
map_far_corner : start_in map_table 63 63 ≡ record { flat = 4030; holds = of_map }
unfolding start_in
map_far_corner = refl

-- the last place that the Rust completes, and the next, of which x alone is past its reach
map_completed : start_in map_table 62 62 ≡ record { flat = 4030; holds = none }
unfolding start_in
map_completed = refl

map_x_alone : start_in map_table 63 62 ≡ record { flat = 4030; holds = of_map }
unfolding start_in
map_x_alone = refl

-- completed over a row's end
map_over_a_row's_end : start_in map_table 63 61 ≡ record { flat = 3967; holds = none }
unfolding start_in
map_over_a_row's_end = refl

-- the last bank's far corner
bank_far_corner : start_in (bank_table 2) 63 128 ≡ record { flat = 25208; holds = of_bank }
unfolding start_in
bank_far_corner = refl

-- completed with y past its reach, and the next
bank_completed : start_in (bank_table 2) 62 129 ≡ record { flat = 25209; holds = none }
unfolding start_in
bank_completed = refl

bank_y_alone : start_in (bank_table 2) 62 130 ≡ record { flat = 25208; holds = of_bank }
unfolding start_in
bank_y_alone = refl

-- held in the bank chosen
bank_chosen : start_in (bank_table 1) 150 5 ≡ record { flat = 16637; holds = of_bank }
unfolding start_in
bank_chosen = refl
