-- The calls over a score and a take, and the score that each leaves: whole rendering and an edit of document 01, an insertion and a removal of
-- document 02. Each is handed a row count beside the lent words, which may be longer than the score.
use Rattle.std.specs.Prelude.{ℕ, ◌+◌, ◌-◌, List, codes, Option, None, Some}
use Rattle.score.specs.Rows.{most_rows, put_row, insert_row, remove_row}
use Rattle.refusals.specs.declared.Call.{Call}
use Rattle.refusals.specs.declared.Call.TheVariants.{Render, Edit, Insert, Remove}

-- The row count after an accepted call.
unfoldable pub count_after : ℕ → Call → ℕ
count_after n Render = n
count_after n (Edit k row) = n
count_after n (Insert p row) = n + 1
count_after n (Remove p) = n - 1

-- The lent row words after an accepted call: the row put in its place, put between the others, or taken out.
unfoldable pub rows_after : ℕ → List ℕ → Call → List ℕ
rows_after n rows Render = rows
rows_after n rows (Edit k row) = put_row rows k row
rows_after n rows (Insert p row) = insert_row n rows p row
rows_after n rows (Remove p) = remove_row n rows p

-- The row that a call is about: rendering has none, and starts at row 0.
unfoldable pub position : Call → ℕ
position Render = 0
position (Edit k row) = k
position (Insert p row) = p
position (Remove p) = p

-- The row that a call is about, where it is about one.
unfoldable pub position_of : Call → Option ℕ
position_of Render = None
position_of c = Some (position c)

-- What a call is called.
unfoldable pub name_of : Call → List ℕ
name_of Render = codes "render"
name_of (Edit k row) = codes "edit"
name_of (Insert p row) = codes "insert"
name_of (Remove p) = codes "remove"

-- The counts that a call takes: from 1 to 4,096, but "Removing the only row gives 6, as does an insertion into 4,096 rows."
unfoldable pub least_count : Call → ℕ
least_count Render = 1
least_count (Edit k row) = 1
least_count (Insert p row) = 1
least_count (Remove p) = 2

unfoldable pub largest_count : Call → ℕ
largest_count Render = most_rows
largest_count (Edit k row) = most_rows
largest_count (Insert p row) = most_rows - 1
largest_count (Remove p) = most_rows
