-- The loop over the heights of a layer, by the law of lent runs that a loop fills and the law of counts.
use Rattle.std.proofs.Common.{◌≡◌, ap, arith, rules}
use Rattle.utils.specs.Holds.{none}
use Rattle.utils.proofs.Sums.{most_none, most_more, most_plus, most_reading}
use Rattle.utils.proofs.Frames.{count_none, count_more}
use Rattle.utils.proofs.Runs.{filling_none, filling_more}
use Rattle.terrain.specs.Heights.{Reading}
use Rattle.wave_terrain_engine.proofs.frames.heights.Goals as goal

pub loop-j-init : goal.loop-j-init
loop-j-init c =
    let none_yet : c.default-holds.result ≡ none = search rules in
    rw none_yet (record { few = most_none 0; counted = count_none _; heights = filling_none _ _ _ })

pub and_reading-holds-requires : goal.and_reading-holds-requires
and_reading-holds-requires c = most_more (omega arith) (most_plus c.loop-j.invariant.few (most_reading _))

pub loop-j-preserved : goal.loop-j-preserved
loop-j-preserved c =
    let inv = c.loop-j.invariant in
    let z = c.terrain-z.ensures in
    rw c.and_reading-holds.ensures
    (record {
      few = most_plus inv.few (most_reading _);
      counted = count_more _ _ _ _ inv.counted (ap (λ (r : Reading). r.holds) z);
      heights = filling_more _ _ _ _ _ _ (omega arith) (ap (λ (r : Reading). r.value) z) inv.heights;
    })

pub returns : goal.returns
returns c =
    let inv = c.loop-j.invariant in
    let e : c.loop-j.j ≡ c.args.n = omega arith in
    record { at_most = rw e at inv.few; value = rw e at inv.counted; filled = rw e at inv.heights.filled }
