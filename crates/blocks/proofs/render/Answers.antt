-- `blocks::render` meets its contract: the voice's own block, over the source's tables, is the block of the state that holds it.
use Rattle.voice.specs.declared.State.TheVariants.{Wavetable, Terrain, Oscillator}
use Rattle.voice.specs.Voice.{rendered}
use Rattle.blocks.proofs.Blocks.{renders_among}
use Rattle.blocks.proofs.render.Goals as goal

pub returns-in-Wavetable : goal.returns-in-Wavetable
unfolding rendered
returns-in-Wavetable c =
    let ratios = c.pitch_ratios-ratios.ensures in
    rw c.in-Wavetable.is
    (renders_among Wavetable _ _ _ _ _ _ _ _ c.among.ensures.state c.among.ensures.holds (rw (ratios.high, ratios.low) at c.render.ensures))

pub returns-in-Terrain : goal.returns-in-Terrain
unfolding rendered
returns-in-Terrain c =
    let ratios = c.pitch_ratios-ratios.ensures in
    let among = c.among-in-Terrain.ensures in
    rw c.in-Terrain.is
    (renders_among Terrain _ _ _ _ _ _ _ _ among.state among.holds (rw (c.sine_table.ensures, ratios.high, ratios.low) at c.render-in-Terrain.ensures))

pub returns-in-Oscillator : goal.returns-in-Oscillator
unfolding rendered
returns-in-Oscillator c =
    let ratios = c.pitch_ratios-ratios.ensures in
    let among = c.among-in-Oscillator.ensures in
    rw c.in-Oscillator.is
    (renders_among Oscillator _ _ _ _ _ _ _ _ among.state among.holds (rw (ratios.high, ratios.low) at c.render-in-Oscillator.ensures))
