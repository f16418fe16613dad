-- A line of values: each word of its row is read at its source, what refuses it, and where the next line starts.
use Rattle.std.proofs.Common.{◌≡◌, refl, sym, ap, ◌∙◌, Bool, true, false, cond, true≢false, ◌&&◌, Err, List, [], ◌∷◌, ℕ, zero, suc, ◌+◌, ◌-◌, ◌*◌, ◌≤◌, ◌<◌, arith, ltb-true, ltb, length, get_or, take, drop}
use Rattle.std.specs.Result.{is_ok}
use Rattle.score.specs.declared.refusal.Refusal.TheVariants.{Limit, Value}
use Rattle.score.specs.Numbers.{accepted}
use Rattle.score.specs.Limits.{row_within}
use Rattle.text.specs.Text.{Line, lines_of, first_of, rest_of, word_digits, is_word, word_of}
use Rattle.names.specs.declared.Source.{Source}
use Rattle.names.specs.declared.Source.TheVariants.{Column}
use Rattle.names.specs.Sources.{readable, each_readable}
use Rattle.values.specs.Lines.{holds_words, word_from, row_of, test_line}
use Rattle.values.specs.Inner.{field_bytes, first_line, OnLine}
use Rattle.lists.proofs.Cases.{both}
use Rattle.text.proofs.Digits.{word_fits}
use Rattle.std.proofs.lemmas.List.Folds.{list_all_at}
use Rattle.values.proofs.Fields.{Right, right}

right_line : (count : ℕ) (text : List ℕ) → 0 < count → holds_words count (first_of (lines_of text)) ≡ true → Right count text
right_line zero text h e = absurd (omega arith)
right_line (suc count) text h e = right count text e

-- a line that has some sources has each of them
pub on_line_at : (sources : List Source) (line : Line) (k : ℕ) (d : Source) → OnLine sources line → k < length sources → OnLine (get_or sources k d ∷ []) line
unfolding each_readable
on_line_at sources line k d o h = record { names = o.names; some = o.some; words = o.words; readable = go (readable o.names (get_or sources k d)) refl }
  where
    go : (b : Bool) → readable o.names (get_or sources k d) ≡ b → b && true ≡ true
    go true e = refl
    go false e = absurd (true≢false (sym o.readable ∙ list_all_at (readable o.names) sources k d h e))

-- ---- a word of a row
module _ (text : List ℕ) (column : ℕ) (o : OnLine (Column column ∷ []) (first_line text)) where
  column_inside : column < o.names
  unfolding each_readable
  column_inside = ltb-true column o.names (both (ltb column o.names) true o.readable).0

  line : Right o.names text
  line = right_line o.names text o.some o.words

  abbrev field : List ℕ
  field = take (column * field_bytes + word_digits - column * field_bytes) (drop (column * field_bytes) text)

  is_field : field ≡ take word_digits (drop (column * field_bytes) text)
  is_field = let n : column * field_bytes + word_digits - column * field_bytes ≡ word_digits = omega arith in rw n

  pub column_word : is_word field ≡ true
  column_word = ap is_word is_field ∙ line.word column column_inside

  pub column_fits : column * field_bytes + word_digits ≤ length text
  column_fits = word_fits text (column * field_bytes) (line.word column column_inside)

  pub column_value : word_of field ≡ word_from (first_line text) (Column column)
  column_value = ap word_of (is_field ∙ sym (line.field column column_inside))

-- ---- the test of a line
module _ (n : ℕ) (sources : List Source) (at : ℕ) (line : Line) where
  pub no_value : (score : Bool) → holds_words n line ≡ false → test_line n sources score at line ≡ Err (Value at)
  unfolding test_line
  no_value score e = rw e

  pub unlimited : holds_words n line ≡ true → (score : Bool) → score ≡ false → test_line n sources score at line ≡ accepted
  unfolding test_line
  unlimited e score l = rw (e, l)

  pub by_limit : holds_words n line ≡ true → (score : Bool) → score ≡ true → test_line n sources score at line ≡ cond (row_within (row_of sources line)) accepted (Err (Limit at))
  unfolding test_line
  by_limit e score l = rw (e, l)

  pub value : (score : Bool) → test_line n sources score at line ≡ accepted → holds_words n line ≡ true
  value score e = go (holds_words n line) refl
    where
      go : (b : Bool) → holds_words n line ≡ b → b ≡ true
      go true h = refl
      go false h = absurd (true≢false (ap is_ok (sym e ∙ no_value score h)))

-- ---- a line that is not refused, and the line after it
module _ (n : ℕ) (sources : List Source) (score : Bool) (at : ℕ) (text : List ℕ) (some : 0 < n) (z : test_line n sources score at (first_line text) ≡ accepted) where
  line_right : Right n text
  line_right = right_line n text some (value n sources at (first_line text) score z)

  pub next_line : rest_of (lines_of text) ≡ lines_of (drop (n * field_bytes) text)
  next_line = line_right.rest

  pub line_fits : n * field_bytes ≤ length text
  line_fits = line_right.fits
