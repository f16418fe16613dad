-- `waves::read_corners` meets its contract.
use Rattle.waves.proofs.Corners.{corners_read, level_fits}
use Rattle.waves.proofs.read_corners.Goals as goal

pub read_level-z0-requires : goal.read_level-z0-requires
read_level-z0-requires c = rw c.args.s.z0_value (level_fits _ _ _)

pub read_level-z1-requires : goal.read_level-z1-requires
read_level-z1-requires c = rw c.args.s.z1_value (level_fits _ _ _)

pub returns : goal.returns
returns c = rw (c.read_level-z1.ensures, c.read_level-z0.ensures) (corners_read _ c.args.s _ _)
