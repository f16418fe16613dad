-- Each source is readable, and as many are columns as the line has fields.
use Rattle.std.proofs.Common.{rules, tests, sym, ◌∙◌}
use Rattle.std.proofs.lemmas.Iterator.{YieldsList-from_slice}
use Rattle.std.proofs.lemmas.Iterator.Consumers.{YieldsList-from_filter, count_from_yields_List}
use Rattle.std.proofs.lemmas.Iterator.Search.{all_from_yields_List}
use Rattle.std.proofs.lemmas.List.Sums.{length-filter}
use Rattle.names.specs.Sources.{readable, is_column, each_readable, column_count, each_once}
use Rattle.names.proofs.each_once.Goals as goal

pub returns-then-all : goal.returns-then-all
unfolding each_readable column_count each_once
returns-then-all c =
    let a = c.args in
    let all = all_from_yields_List (readable a.count) _ _ c.all.result c.all.ensures.ran (YieldsList-from_slice a.sources.now cc) (λ x b q k. search (rules, tests)) in
    let columns = count_from_yields_List c.filter.result _ c.count-columns.ensures.ran
    (YieldsList-from_filter _ is_column (YieldsList-from_slice a.sources.now cc) c.filter.ensures.closure (λ x b q k. search (rules, tests)))
    ∙ length-filter is_column a.sources.now in
    rw (columns, sym all, c.if-all.true)

pub returns-else-all : goal.returns-else-all
unfolding each_readable column_count each_once
returns-else-all c =
    let a = c.args in
    let all = all_from_yields_List (readable a.count) _ _ c.all.result c.all.ensures.ran (YieldsList-from_slice a.sources.now cc) (λ x b q k. search (rules, tests)) in
    rw (sym all, c.if-all.false)
