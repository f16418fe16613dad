-- The words that are left decide.
use Rattle.std.proofs.Common.{◌≡◌, refl, sym, ◌∙◌, true, false, List, ℕ, zero, suc, ◌+◌, ◌-◌, ◌<◌, arith, drop}
use Rattle.std.proofs.lemmas.List.{take_rest}
use Rattle.text.specs.Text.{space}
use Rattle.values.specs.Lines.{holds_words}
use Rattle.values.specs.Inner.{field_bytes, starts_word, first_line}
use Rattle.values.proofs.Fields.{starts_long, words_on, no_space_no_words, last_word}
use Rattle.values.proofs.holds_words.Goals as goal

module _ (text : List ℕ) where
  no-words-left : (left : ℕ) → 1 < left → starts_word space text ≡ false → holds_words left (first_line text) ≡ false
  no-words-left zero h e = absurd (omega arith)
  no-words-left (suc zero) h e = absurd (omega arith)
  no-words-left (suc (suc left)) h e = no_space_no_words text e left

  words_left : (left : ℕ) → 1 < left → starts_word space text ≡ true → holds_words left (first_line text) ≡ holds_words (left - 1) (first_line (drop field_bytes text))
  words_left zero h e = absurd (omega arith)
  words_left (suc left) h e = let n : suc left - 1 ≡ left = omega arith in rw n (words_on text e left)

pub loop-init : goal.loop-init
loop-init c = let n : c.args.count + 1 - 1 ≡ c.args.count = omega arith in rw n refl

pub returns-then-not-starts_word : goal.returns-then-not-starts_word
returns-then-not-starts_word c = sym (c.loop.invariant ∙ no-words-left _ _ (omega arith) (sym c.starts_word.ensures ∙ c.if-not-starts_word.true))

pub slice_bounds-rest-count : goal.slice_bounds-rest-count
slice_bounds-rest-count c = omega (arith, starts_long space c.loop.rest.now (sym c.starts_word.ensures ∙ c.if-not-starts_word.false))

pub slice_bounds-rest-start : goal.slice_bounds-rest-start
slice_bounds-rest-start c = omega (arith, starts_long space c.loop.rest.now (sym c.starts_word.ensures ∙ c.if-not-starts_word.false))

pub loop-preserved : goal.loop-preserved
loop-preserved c =
    let l = c.loop in
    let e = sym c.starts_word.ensures ∙ c.if-not-starts_word.false in
    let n : c.args.count + 1 - (l.counter + 1) ≡ c.args.count + 1 - l.counter - 1 = omega arith in
    rw (n, take_rest l.rest.now 9) (l.invariant ∙ words_left l.rest.now (c.args.count + 1 - l.counter) (omega arith) e)

pub returns : goal.returns
returns c =
    let l = c.loop in
    let one : c.args.count + 1 - l.counter ≡ 1 = omega arith in
    c.starts_word-2.ensures ∙ sym (l.invariant ∙ rw one (last_word l.rest.now))
