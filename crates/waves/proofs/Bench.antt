-- Document 01, "Bench values", of wave numbers and levels, computed.
use Rattle.std.proofs.Common.{◌≡◌, refl}
use Rattle.waves.specs.Waves.{wave, fold_level}

-- "waves (1,0,3) 101, (7,7,3) 27, (8,7,2) 0"
wave_1_0_3 : wave 1 0 3 ≡ 101
unfolding wave
wave_1_0_3 = refl

wave_7_7_3 : wave 7 7 3 ≡ 27
unfolding wave
wave_7_7_3 = refl

wave_8_7_2 : wave 8 7 2 ≡ 0
unfolding wave
wave_8_7_2 = refl

-- "level 4 folds to 3, 7 to 0"
level_4 : fold_level 4 ≡ 3
unfolding fold_level
level_4 = refl

level_7 : fold_level 7 ≡ 0
unfolding fold_level
level_7 = refl
