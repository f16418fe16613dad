-- The block: what the stages leave behind them is the block frame by frame (Composed).
use Rattle.std.proofs.Common.{◌≡◌, ◌∙◌, rules, length}
use Rattle.wavetable_engine.proofs.Composed.{keys_fit, Staged, set_up_by, renders}
use Rattle.wavetable_engine.proofs.WavetableEngine.render.Goals as goal

pub read_all-requires-clause-keys_fit : goal.read_all-requires-clause-keys_fit
read_all-requires-clause-keys_fit c = keys_fit _ _ _ _ _ _ _ _ _ c.walk-w.ensures

pub returns : goal.returns
returns c =
    let words-all = c.words_all in
    let differentiate-all = c.differentiate_all-diff_out in
    let fold-all = c.fold_all in
    let read_all = c.read_all in
    let walk = c.walk-w in
    let set-up = c.set_up-m in
    let a = c.args in
    let bank = a.bank.now in
    let size = length a.out.now in
    let whole : c.unwrap-bank.result.now ≡ bank = search rules in
    let staged : Staged bank size set-up.result a.self.diff_out walk.result differentiate-all.result
    words-all.new.out words-all.new.aux =
    record {
      keys = walk.new.keys;
      xs = walk.new.xs;
      ys = walk.new.ys;
      zs = walk.new.zs;
      phases = walk.new.phases;
      corners = read_all.new.corners;
      mixes = fold-all.new.mixes;
      samples = differentiate-all.new.samples;
      walked = walk.ensures;
      corners_are = rw whole at read_all.ensures;
      mixes_are = fold-all.ensures;
      diff_is = differentiate-all.ensures.value;
      samples_are = differentiate-all.ensures.filled;
      out_are = words-all.ensures.filled;
      aux_are = words-all.ensures.filled_2;
      out_long = words-all.auto.out;
      aux_long = words-all.auto.aux ∙ c.requires.places.aux_long;
    } in
    let g = set_up_by _ _ _ _ _ _ _ _ _ set-up.ensures staged in
    rw set-up.ensures (renders _ _ _ _ _ _ _ _ _ _ g)
