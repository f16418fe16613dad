-- Each name's source.
use Rattle.std.proofs.Common.{rules, tests, sym, ◌∙◌}
use Rattle.std.proofs.lemmas.Simd.{map-map}
use Rattle.text.specs.Text.{fields_of}
use Rattle.names.specs.Sources.{source_of, sources_of}
use Rattle.names.specs.Inner.{entry_of}
use Rattle.names.proofs.Mapped.{made_by}
use Rattle.names.proofs.sources_of.Goals as goal

pub returns : goal.returns
unfolding sources_of
returns g c =
    let a = c.args in
    made_by _ _ (λ e. source_of (fields_of a.line.now) (entry_of e)) a.table.now c.from_fn.result (λ k y q h b. search (rules, tests)) _ c.requires c.from_fn.ensures.items ∙ sym (map-map _ _ a.table.now)
