-- The line that the first LF ends is tested against the table, and then the lines after it are read.
use Rattle.std.proofs.Common.{rules, ◌≡◌, sym, ◌∙◌, length, ◌<◌, ◌+◌, arith}
use Rattle.std.proofs.lemmas.List.{take_rest}
use Rattle.reader.proofs.Settling.{some_fields, all_readable, no_lf, names_wrong, names_right}
use Rattle.reader.proofs.read_text.Goals as goal

pub returns-in_default : goal.returns-in_default
returns-in_default g c = no_lf _ _ _ _ (omega (arith, c.in_default.ensures.value))

pub returns-then-not-each_once : goal.returns-then-not-each_once
returns-then-not-each_once g c =
    let cut = c.in-Some.ensures in
    let wrong = rw c.count_fields-names.ensures.0 at (sym c.each_once.ensures ∙ c.if-not-each_once.true) in
    names_wrong _ _ _ _ c.in-Some.end cut.value cut.inside _ c.sources_of-sources.ensures wrong

pub invariant_of-layout : goal.invariant_of-layout
invariant_of-layout g c =
    let long : length c.sources_of-sources.result ≡ g.row.N = search rules in
    let some : 0 < length c.sources_of-sources.result = omega (arith, c.requires.some_names) in
    record {
      some_words = some;
      some_names = rw c.count_fields-names.ensures.0 (some_fields _);
      found = all_readable _ _ (sym c.each_once.ensures ∙ c.if-not-each_once.false);
      five_words = λ s. long ∙ c.requires.score_width s;
    }

pub returns : goal.returns
returns g c =
    let cut = c.in-Some.ensures in
    let right = rw c.count_fields-names.ensures.0 at (sym c.each_once.ensures ∙ c.if-not-each_once.false) in
    rw (take_rest c.args.text.now (c.in-Some.end + 1)) at c.read_lines.ensures
    ∙ rw c.count_fields-names.ensures.0 (names_right _ _ _ _ c.in-Some.end cut.value cut.inside _ c.sources_of-sources.ensures right)
