-- `files::reading::read_all`: what came in so far lies within the bytes, and is what the reader lost (came_more).
use Rattle.std.proofs.Common.{rules}
use Rattle.files.proofs.Came.{came_more}
use Rattle.files.proofs.reading.read_all.Goals as goal

pub loop-at-preserved : goal.loop-at-preserved
loop-at-preserved g c =
    let came = c.read_some-got.ensures.came in
    (search rules, came.within, came_more _ _ _ _ _ _ _ c.loop-at.invariant.2 came.front came.read)
