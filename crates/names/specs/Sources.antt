-- Document 01, "Score text": the line of names, and where each word of a row comes from by it. The table of names is a parameter.
use Rattle.std.specs.Prelude.{ℕ, Bool, true, false, ◌&&◌, List, map, length, ltb, eqb, count_by, Option, Some, None}
use Rattle.std.specs.List.{list_all}
use Rattle.text.specs.Text.{Line, ended, unended, contents, first_of, fields_of, column_of}
use Rattle.names.specs.declared.Source.{Source}
use Rattle.names.specs.declared.Source.TheVariants.{Column, Word, Missing}

-- A name of a table: as a text has it, and where its word comes from if the first line lacks it. A table has its names in the order of a
-- row's words: a name's place in the table is its word's place in the row.
pub record Entry : Type 0 where
  pub spelling : List ℕ
  pub absent : Source

-- The source of a name that stands in a column, or is absent.
abbrev pub source_at : Option ℕ → Source → Source
source_at (Some column) absent = Column column
source_at None absent = absent

-- Where a name's word comes from, by the fields of the first line.
abbrev pub source_of : List (List ℕ) → Entry → Source
source_of fields entry = source_at (column_of entry.spelling fields) entry.absent

unfoldable pub sources_of : List Entry → List (List ℕ) → List Source
sources_of table fields = map (source_of fields) table

-- A source that a line of n fields has.
abbrev pub readable : ℕ → Source → Bool
readable n (Column column) = ltb column n
readable n (Word word) = true
readable n Missing = false

unfoldable pub each_readable : ℕ → List Source → Bool
each_readable n sources = list_all (readable n) sources

-- How many of some sources are columns.
abbrev pub is_column : Source → Bool
is_column (Column column) = true
is_column (Word word) = false
is_column Missing = false

unfoldable pub column_count : List Source → ℕ
column_count sources = count_by is_column sources

-- "any order, each once": each name, all of which differ, has a column or may be absent, and as many fields are there as names with a column.
unfoldable pub each_once : ℕ → List Source → Bool
each_once n sources = each_readable n sources && eqb (column_count sources) n

-- "A line of names"
unfoldable pub holds_names : List Entry → Line → Bool
holds_names table (ended bs) = each_once (length (fields_of bs)) (sources_of table (fields_of bs))
holds_names table (unended bs) = false

-- The first line's names: how many there are, and the sources of a table's words by them.
abbrev pub names_on : List Line → ℕ
names_on lines = length (fields_of (contents (first_of lines)))

abbrev pub sources_by : List Entry → List Line → List Source
sources_by table lines = sources_of table (fields_of (contents (first_of lines)))
