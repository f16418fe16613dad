-- The block: what the stages leave behind them is the block frame by frame (Composed).
use Rattle.std.proofs.Common.{◌≡◌, ◌∙◌, rules, length}
use Rattle.wavetable_oscillator.proofs.Composed.{keys_fit, begin, Staged, renders}
use Rattle.wavetable_oscillator.proofs.WavetableOscillator.render.Goals as goal

pub filter_all-last-requires-clause-keys_fit : goal.filter_all-last-requires-clause-keys_fit
filter_all-last-requires-clause-keys_fit c = keys_fit _ _ _ _ _ _ _ c.part_all-holds.ensures

pub returns : goal.returns
returns c =
    let words-all = c.words_all in
    let filter-all = c.filter_all-last in
    let part-all = c.part_all-holds in
    let walk = c.walk-end in
    let a = c.args in
    let size = length a.out.now in
    let whole : c.unwrap-bank.result.now ≡ a.bank.now = search rules in
    let staged : Staged a.bank.now size (begin a.bank.now a.ratios.now.high a.ratios.now.low size a.parameters a.self) walk.result part-all.result filter-all.result
    words-all.new.out words-all.new.aux =
    record {
      phases₀ = walk.new.phases;
      waveforms₀ = walk.new.waveforms;
      phases = part-all.new.phases;
      waveforms = part-all.new.waveforms;
      cutoffs = walk.new.cutoffs;
      amplitudes = walk.new.amplitudes;
      keys = part-all.new.keys;
      lps = filter-all.new.lps;
      walked = rw (c.begin-start.ensures, c.targets_of-targets.ensures) at walk.ensures;
      parted = part-all.ensures;
      filters_are = rw whole at filter-all.ensures;
      out_are = words-all.ensures.filled;
      aux_are = words-all.ensures.filled_2;
      out_long = words-all.auto.out;
      aux_long = words-all.auto.aux ∙ c.requires.places.aux_long;
    } in
    renders _ _ _ _ _ _ _ _ _ _ _ staged
