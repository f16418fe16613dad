-- A column is read where it stands on the line.
use Rattle.std.proofs.Common.{◌∙◌, arith}
use Rattle.std.proofs.lemmas.Bool.{false≢true}
use Rattle.names.specs.Sources.{each_readable}
use Rattle.values.proofs.Values.{column_word, column_fits, column_value}
use Rattle.values.proofs.word_from.Goals as goal

pub overflow_mul-at : goal.overflow_mul-at
overflow_mul-at c = let o = rw c.in-Column.is at c.requires in omega (arith, column_fits c.args.text.now _ o)

pub overflow_add-at : goal.overflow_add-at
overflow_add-at c = let o = rw c.in-Column.is at c.requires in omega (arith, column_fits c.args.text.now _ o)

pub slice_bounds-word_of-end : goal.slice_bounds-word_of-end
slice_bounds-word_of-end c = let o = rw c.in-Column.is at c.requires in omega (arith, column_fits c.args.text.now _ o)

pub word_of-requires : goal.word_of-requires
word_of-requires c = let o = rw c.in-Column.is at c.requires in column_word c.args.text.now _ o

pub returns-in-Column : goal.returns-in-Column
returns-in-Column c = let o = rw c.in-Column.is at c.requires in rw c.in-Column.is (c.word_of.ensures ∙ column_value c.args.text.now _ o)

pub unreachable-requires : goal.unreachable-requires
unfolding each_readable
unreachable-requires c = let o = rw c.in-Missing.is at c.requires in false≢true o.readable
