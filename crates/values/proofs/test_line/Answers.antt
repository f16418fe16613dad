-- 11, and then 9 in a score.
use Rattle.std.proofs.Common.{sym, ◌∙◌}
use Rattle.values.proofs.Values.{no_value, unlimited, by_limit}
use Rattle.values.proofs.test_line.Goals as goal
use Rattle.values.proofs.test_line.Goals.{else-layout-via-then-layout+else-not-line_within, else-layout-via-else-layout}

pub returns-then-not-holds_words : goal.returns-then-not-holds_words
returns-then-not-holds_words c = sym (no_value _ _ _ _ _ (sym c.holds_words.ensures ∙ c.if-not-holds_words.true))

pub line_within-requires : goal.line_within-requires
line_within-requires c =
    let l = c.args.layout in
    record {
      on_line = record { names = l.names; some = l.some_names; words = sym c.holds_words.ensures ∙ c.if-not-holds_words.false; readable = l.found };
      row_len = l.five_words c.if-layout.true;
    }

pub returns-then-not-line_within : goal.returns-then-not-line_within
returns-then-not-line_within c =
    let words = sym c.holds_words.ensures ∙ c.if-not-holds_words.false in
    let within = sym c.line_within.ensures ∙ c.if-not-line_within.true in
    sym (by_limit _ _ _ _ words _ c.if-layout.true ∙ rw within)

pub returns : goal.returns
returns c =
    let words = sym c.holds_words.ensures ∙ c.if-not-holds_words.false in
    elim c.else-layout.branch [
      | else-layout-via-then-layout+else-not-line_within w ↦ sym (by_limit _ _ _ _ words _ w.if-layout.true ∙ rw (sym w.line_within.ensures ∙ w.if-not-line_within.false))
      | else-layout-via-else-layout w ↦ sym (unlimited _ _ _ _ words _ w.if-layout.false)
    ]
