-- The constants that the source computes.
use Rattle.std.proofs.Common.{◌≡◌, refl}
use Rattle.std.specs.Float.Ieee.{div, of_int, round}
use Rattle.words.specs.Binary32.{decimal}
use Rattle.wave_terrain_engine.specs.Block.{scale}

pub scale_half : scale ≡ decimal 5 1
unfolding div of_int round decimal
scale_half = refl
