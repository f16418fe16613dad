-- Document 02, "A tidy writer": what reading and writing promise together.
use Rattle.std.specs.Prelude.{ℕ, ◌*◌, ◌^◌, ◌≤◌, ◌<◌, ◌≡◌, true, List, ◌++◌, length, get_or, take, drop, Ok}
use Rattle.score.specs.Rows.{row_words}
use Rattle.text.specs.Text.{lines_of, first_of, contents, fields_of, no_capital}
use Rattle.reader.specs.Reading.{score_table, text_rows, read_of}
use Rattle.reader.specs.Reading as reading
use Rattle.writer.specs.Writing.{names, score_text, text_bytes, write_of}

-- The rows of a text, as they are read.
abbrev pub rows_in : List ℕ → List ℕ
rows_in text = text_rows score_table (lines_of text)

-- A text was read as a score into lent words, and what was read was written into lent bytes; the first of these, as many as the writer says, are `tidy`.
pub record Tidied (text tidy : List ℕ) : Type 0 where
  pub words : List ℕ
  pub lent : List ℕ
  pub count : ℕ
  pub bytes : ℕ
  pub read : (read_of text words).answer ≡ Ok count
  pub wrote : (write_of count (read_of text words).rows lent).answer ≡ Ok bytes
  pub is : take bytes (write_of count (read_of text words).rows lent).text ≡ tidy

-- A tidy text: the names in row order, and no capital letter.
pub record Tidy (text : List ℕ) : Type 0 where
  pub in_order : fields_of (contents (first_of (lines_of text))) ≡ names
  pub lower_case : no_capital text ≡ true

-- The claim.
pub record TidyWriter : Type 0 where
  -- How many bytes a score needs.
  pub long : (count : ℕ) (rows : List ℕ) → count * row_words ≤ length rows → length (score_text count rows) ≡ text_bytes count
  -- "Reading that text gives the same words", of 32 bits each, and their count, wherever there is room for them.
  pub reads_back : (count bytes : ℕ) (rows lent words : List ℕ) → ((i : ℕ) → get_or rows i 0 < 2 ^ 32) → (write_of count rows lent).answer ≡ Ok bytes
      → count * row_words ≤ length words
      → read_of (take bytes (write_of count rows lent).text) words
      ≡ reading.outcome (Ok count) (take (count * row_words) rows ++ drop (count * row_words) words)
  -- An accepted text is written wherever there is room for it.
  pub writes : (text words lent : List ℕ) (count : ℕ) → (read_of text words).answer ≡ Ok count → text_bytes count ≤ length lent
      → (write_of count (read_of text words).rows lent).answer ≡ Ok (text_bytes count)
  -- "Two accepted texts become equal bytes exactly when their rows are equal."
  pub equal_bytes : (a b tidy_a tidy_b : List ℕ) → Tidied a tidy_a → Tidied b tidy_b
      → (tidy_a ≡ tidy_b → rows_in a ≡ rows_in b) × (rows_in a ≡ rows_in b → tidy_a ≡ tidy_b)
  -- What is written is tidy.
  pub tidies : (count bytes : ℕ) (rows lent : List ℕ) → (write_of count rows lent).answer ≡ Ok bytes → Tidy (take bytes (write_of count rows lent).text)
  -- A tidy text is written as it was read.
  pub unchanged : (text tidy : List ℕ) → Tidy text → Tidied text tidy → tidy ≡ text
