-- Document 01, "Rows, states, retakes", and document 02: a score's rows, as words one row after the other.
use Rattle.std.specs.Prelude.{ℕ, ◌*◌, Bool, ◌||◌, List, [], ◌∷◌, get_or, eqb, ltb}
use Rattle.lists.specs.Lists.{part, put, shift_up, shift_down}

-- "A row is five words."
abbrev pub row_words : ℕ
row_words = 5

-- 6: "a count of 0 or above 4,096"
abbrev pub most_rows : ℕ
most_rows = 4096

-- 6: "a count of 0 or above 4,096 or, outside the reader, fewer row words than 5 times it", where a call takes counts from `least` to `largest`
abbrev pub wrong_rows : ℕ → ℕ → ℕ → ℕ → Bool
wrong_rows least largest n rows = ltb n least || (ltb largest n || ltb rows (n * row_words))

-- "note, timbre, morph, harmonics, restart"
pub data Name : Type 0 where
  note timbre morph harmonics restart : Name

-- The names in row order.
abbrev pub row_names : List Name
row_names = note ∷ timbre ∷ morph ∷ harmonics ∷ restart ∷ []

-- Where a name's word stands in a row.
abbrev pub place : Name → ℕ
place note = 0
place timbre = 1
place morph = 2
place harmonics = 3
place restart = 4

-- The word of a name in a row.
abbrev pub word_for : Name → List ℕ → ℕ
word_for name row = get_or row (place name) 0

-- The words of row i.
abbrev pub row_at : List ℕ → ℕ → List ℕ
row_at rows i = part row_words rows i

-- "An edit replaces row k of the lent row words."
abbrev pub put_row : List ℕ → ℕ → List ℕ → List ℕ
put_row rows k row = put rows (k * row_words) row

-- "Inserting moves later rows .. up by one place": of n rows those from place p on, where the new row then stands.
abbrev pub insert_row : ℕ → List ℕ → ℕ → List ℕ → List ℕ
insert_row n rows p row = put_row (shift_up row_words rows p n) p row

-- "removing moves them down": of n rows those behind row p.
abbrev pub remove_row : ℕ → List ℕ → ℕ → List ℕ
remove_row n rows p = shift_down row_words rows p n

-- "each row with restart 1"
abbrev pub restarts : List ℕ → Bool
restarts row = eqb (word_for restart row) 1
