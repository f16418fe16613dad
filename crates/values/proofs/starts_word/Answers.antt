-- A word, and the byte after it.
use Rattle.std.proofs.Common.{◌≡◌, sym, ◌∙◌, false, true≢false, ◌&&◌, List, ℕ, ◌≤◌, ◌<◌, arith, lt-ltb, le-ltb, eqb, length, get_or, take}
use Rattle.std.proofs.lemmas.Bool.{lt-leb}
use Rattle.text.specs.Text.{word_digits, is_word}
use Rattle.values.specs.Inner.{field_bytes, starts_word}
use Rattle.values.proofs.starts_word.Goals as goal
use Rattle.values.proofs.starts_word.Goals.{then-text-ge-FIELD, else-text-ge-FIELD}

module _ (text : List ℕ) (after : ℕ) where
  too_short : length text < field_bytes → starts_word after text ≡ false
  unfolding starts_word
  too_short h = let l : length text ≤ word_digits = omega arith in rw (le-ltb word_digits (length text) l)

  long_enough : field_bytes ≤ length text → starts_word after text ≡ is_word (take word_digits text) && eqb (get_or text word_digits 0) after
  unfolding starts_word
  long_enough h = rw (lt-ltb word_digits (length text) h)

pub returns-then-is_word : goal.returns-then-is_word
returns-then-is_word c =
    let a = c.args in
    elim c.if-text-ge-FIELD.branch [
      | then-text-ge-FIELD w ↦ sym (long_enough a.text.now a.after w.if-text-ge-FIELD.true ∙ rw (sym w.is_word.ensures, sym w.value-is, c.if-is_word.true))
      | else-text-ge-FIELD w ↦ absurd (true≢false (sym c.if-is_word.true ∙ w.value-is ∙ lt-leb _ _ w.if-text-ge-FIELD.false))
    ]

pub returns-else-is_word : goal.returns-else-is_word
returns-else-is_word c =
    let a = c.args in
    elim c.if-text-ge-FIELD.branch [
      | then-text-ge-FIELD w ↦ c.if-is_word.false ∙ sym (long_enough a.text.now a.after w.if-text-ge-FIELD.true ∙ rw (sym w.is_word.ensures, sym w.value-is, c.if-is_word.false))
      | else-text-ge-FIELD w ↦ c.if-is_word.false ∙ sym (too_short a.text.now a.after w.if-text-ge-FIELD.false)
    ]
