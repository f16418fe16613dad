-- The path and then the frames are the block, by the laws of `Blocks`.
use Rattle.std.proofs.Common.{◌*◌, length, sym, ◌∙◌, get_or-take, arith}
use Rattle.std.specs.Float.{nan}
use Rattle.std.specs.Float.Ieee.{of_bits}
use Rattle.words.specs.Binary32.{decimal}
use Rattle.utils.proofs.Sums.{most_more, most_plus}
use Rattle.utils.proofs.Runs.{run_taken}
use Rattle.wave_terrain_engine.proofs.Blocks.{layer_fits, staged_frames, block_renders}
use Rattle.wave_terrain_engine.proofs.Constants.{scale_half}
use Rattle.wave_terrain_engine.proofs.WaveTerrainEngine.render.Goals as goal

pub heights-holds_0-requires-clause-by_index : goal.heights-holds_0-requires-clause-by_index
heights-holds_0-requires-clause-by_index c = λ j l. layer_fits c.args.ground.now.map.now _ _ _ _ j c.shift-end.ensures.filled_2 l (omega arith)

pub heights-holds_1-requires-clause-by_index : goal.heights-holds_1-requires-clause-by_index
heights-holds_1-requires-clause-by_index c = λ j l. layer_fits c.args.ground.now.map.now _ _ _ _ j c.shift-end.ensures.filled_2 l (omega arith)

pub add-requires : goal.add-requires
add-requires c = most_more (omega arith) (most_plus c.heights-holds_0.ensures.at_most c.heights-holds_1.ensures.at_most)

pub returns : goal.returns
unfolding of_bits decimal
returns c =
    let ground = c.args.ground.now in
    let n = length c.args.out.now in
    let path = c.render_quadrature-path.ensures in
    let run = c.render_quadrature-path.new.out in
    let run_2 = c.render_quadrature-path.new.out_2 in
    let shift = c.shift-end.ensures in
    let heights = c.heights-holds_0.ensures in
    let heights-2 = c.heights-holds_1.ensures in
    let aux_long = c.requires.aux_long in
    rw c.add.ensures
    (block_renders ground _ _ n _ _ _ _ _ _ run run_2 _ _ _ _ _
    c.note_to_frequency-f0.ensures
    (sym scale_half)
    c.radius_at.ensures
    path.value
    (run_taken _ _ nan _ _ _ _ path.out_after)
    (run_taken _ _ nan _ _ _ _ path.out_2_after)
    c.interpolators-start.ensures
    shift.value
    (staged_frames ground _ _ _ n run run_2 _ _ _ _ _ _ _ _ _ _
    (record {
      run_is = λ j l. sym (get_or-take (2 * n) run j nan (omega arith));
      run2_is = λ j l. sym (get_or-take (2 * n) run_2 j nan (omega arith));
      xs_are = shift.filled;
      layers_are = shift.filled_2;
      fractions_are = shift.filled_3;
      z0s_are = heights.filled;
      holds_are = heights.value;
      z1s_are = heights-2.filled;
      holds'_are = heights-2.value;
      phases_are = c.sums.ensures.filled;
      out_is = c.sums.ensures.filled_2;
      aux_is = rw aux_long at c.finish.ensures;
      out_long = c.sums.auto.out;
      holds_most = heights.at_most;
      holds'_most = heights-2.at_most;
      aux_long = c.finish.auto.aux ∙ aux_long;
    })))
