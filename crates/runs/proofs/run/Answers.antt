-- `run` is `run_of`: the rows rendered so far and what is left make the whole (`Running`), in the places that were lent.
use Rattle.runs.proofs.Turns.{running_none, running_more, running_ends, sum_fits}
use Rattle.std.proofs.Common.{◌≡◌, ◌∙◌, refl, rules}
use Rattle.utils.specs.Holds.{none, plus}
use Rattle.runs.proofs.run.Goals as goal

pub loop-k-init : goal.loop-k-init
loop-k-init c =
    let stretch = c.requires.from_lt_to in
    let z : c.default-holds.result ≡ none = search rules in
    (record { out_is = refl; aux_is = refl; kept_is = refl }, rw z (running_none _ _ _ _ _ _ stretch.0 stretch.1))

pub add-holds-requires : goal.add-holds-requires
add-holds-requires c =
    let holding = c.requires.holding in
    sum_fits _ _ _ _ _ _ _ _ _ _ _ holding.frames_most holding.rows_most c.render_row-step.ensures.done.holds_most c.loop-k.invariant.1

pub returns-in-None-clause-done : goal.returns-in-None-clause-done
returns-in-None-clause-done c =
    let holding = c.requires.holding in
    let z : c.add-holds.result ≡ plus c.loop-k.holds c.render_row-step.result.holds = c.add-holds.ensures in
    rw z
    (running_ends _ _ _ _ _ _ _ _ _ _ _ _ _ _ holding.frames_most c.render_row-step.ensures.done c.next_end.ensures c.loop-k.invariant.1 c.in-None.is)

pub loop-k-preserved : goal.loop-k-preserved
loop-k-preserved c =
    let holding = c.requires.holding in
    let same = c.render_row-step.ensures.same_places in
    let before = c.loop-k.invariant.0 in
    let z : c.add-holds.result ≡ plus c.loop-k.holds c.render_row-step.result.holds = c.add-holds.ensures in (
      record { out_is = same.out_is ∙ before.out_is; aux_is = same.aux_is ∙ before.aux_is; kept_is = same.kept_is ∙ before.kept_is },
      rw z
          (running_more _ _ _ _ _ _ _ _ _ _ _ _ _ _ holding.frames_most c.render_row-step.ensures.done c.next_end.ensures c.loop-k.invariant.1 _ c.in-Some.is),
    )
