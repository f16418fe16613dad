-- What the functions over a line of values promise each other, in the terms of `Lines`.
use Rattle.std.specs.Prelude.{ℕ, suc, ◌<◌, ◌≡◌, Bool, true, ◌&&◌, List, length, get_or, take, ltb, eqb}
use Rattle.text.specs.Text.{word_digits, is_word, Line, lines_of, first_of}
use Rattle.names.specs.declared.Source.{Source}
use Rattle.names.specs.Sources.{each_readable}
use Rattle.values.specs.Lines.{holds_words}

-- How many bytes a word and the byte after it are.
abbrev pub field_bytes : ℕ
field_bytes = suc word_digits

-- A text starts with a word and then the byte `after`.
unfoldable pub starts_word : ℕ → List ℕ → Bool
starts_word after text = ltb word_digits (length text) && (is_word (take word_digits text) && eqb (get_or text word_digits 0) after)

-- A text's first line.
abbrev pub first_line : List ℕ → Line
first_line text = first_of (lines_of text)

-- A line has each of some sources.
pub record OnLine (sources : List Source) (line : Line) : Type 0 where
  pub names : ℕ
  pub some : 0 < names
  pub words : holds_words names line ≡ true
  pub readable : each_readable names sources ≡ true
