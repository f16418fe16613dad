-- `retake_lib::playing::play_rows` meets its contract: what is lent is a take of n rows, all 0 (part_of_zeros).
use Rattle.std.proofs.Common.{arith, ◌*◌}
use Rattle.voice.specs.Voice.{kept_count}
use Rattle.inputs.specs.Inputs.{most_rows}
use Rattle.retake_lib.specs.Program.{frames}
use Rattle.retake_lib.proofs.Outputs.{part_of_zeros, played_blank}
use Rattle.retake_lib.proofs.playing.play_rows.Goals as goal

pub returns : goal.returns
returns c =
    let n = c.args.given.now.count in
    let most = c.requires.within.rows_most in
    let samples = part_of_zeros (most_rows * frames) (n * frames) (omega (arith, most)) in
    let kept = part_of_zeros (most_rows * kept_count) (n * kept_count) (omega (arith, most)) in
    played_blank _ _ _ _ samples samples kept c.play_take.ensures.output
