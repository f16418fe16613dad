-- The table of `row` and the five names.
use Rattle.std.proofs.Common.{rules, ◌≡◌, ◌∙◌, ap, ap₂, false, List, ◌∷◌, length}
use Rattle.names.specs.Sources.{Entry}
use Rattle.reader.specs.Reading.{read_text, edit_table, read_edits_of}
use Rattle.names.specs.Inner.{entry_of}
use Rattle.reader.proofs.Settling.{five_of}
use Rattle.reader.proofs.read_edits.Goals as goal

pub returns : goal.returns
unfolding read_edits_of edit_table
returns c =
    let long : length c.score_table.result ≡ 5 = search rules in
    let names = ap₂ (λ (e : Entry) (es : List Entry). e ∷ es) c.required.ensures (five_of entry_of _ c.score_table.result long ∙ c.score_table.ensures) in
    c.read_text.ensures ∙ ap (λ t. read_text false t c.args.text.now c.args.edits.now) names
