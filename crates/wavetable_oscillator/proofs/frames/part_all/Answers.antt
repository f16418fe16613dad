-- The loop over the parts, by the law that it goes on (Going).
use Rattle.std.proofs.Common.{◌≡◌, arith, rules}
use Rattle.words.proofs.Parts.{part_most}
use Rattle.utils.specs.Holds.{none}
use Rattle.utils.proofs.Sums.{most_more, most_plus, most_frame}
use Rattle.oscillator.specs.Bank.{phase_top}
use Rattle.wavetable_oscillator.specs.Oscillator.{waveform_top}
use Rattle.wavetable_oscillator.proofs.Going.{part_begins, part_goes_on, part_ends}
use Rattle.wavetable_oscillator.proofs.frames.part_all.Goals as goal

pub loop-i-init : goal.loop-i-init
loop-i-init c =
    let none_yet : c.default-holds.result ≡ none = search rules in
    rw none_yet (part_begins _ _ _)

pub key-requires : goal.key-requires
key-requires c = (part_most _ waveform_top _ c.held_part-w.ensures, part_most _ phase_top _ c.held_part-p.ensures)

pub and_frame-holds-requires : goal.and_frame-holds-requires
and_frame-holds-requires c =
    most_more (omega arith) (most_plus c.loop-i.invariant.few (most_frame _ _ _))

pub loop-i-preserved : goal.loop-i-preserved
loop-i-preserved c =
    let l = c.loop-i in
    rw (c.and_frame-holds.ensures, c.key.ensures, c.held_part-p.ensures, c.held_part-w.ensures)
    (part_goes_on _ _ _ l.phases l.waveforms l.keys l.holds l.i (omega arith) (omega arith) (omega arith) l.invariant)

pub returns : goal.returns
returns c =
    let l = c.loop-i in
    part_ends _ _ _ l.phases l.waveforms l.keys _ l.i _ (omega arith) l.invariant
