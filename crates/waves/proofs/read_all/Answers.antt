-- The readings' loop: one more frame's corners are stored (Stored).
use Rattle.std.proofs.Common.{◌+◌, ◌*◌, ◌<◌, length, arith}
use Rattle.waves.proofs.Stored.{one_more_read}
use Rattle.waves.proofs.read_all.Goals as goal

pub loop-i-preserved : goal.loop-i-preserved
loop-i-preserved c =
    let l = c.loop-i in
    let room : l.i * 8 + 7 < length l.corners = omega (arith, c.requires.places.1) in
    rw (c.store.ensures, c.read_corners-c.ensures, c.places_for-s.ensures) (one_more_read _ _ _ l.corners l.i room l.invariant)
