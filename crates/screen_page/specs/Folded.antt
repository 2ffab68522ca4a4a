-- What a browser makes of entries: rows that each entry changes (ours).
use Rattle.std.specs.Prelude.{ℕ, List, [], ◌∷◌, Option, Some, None}
use Rattle.vt_screen.specs.declared.cell.Size.TheVariants.{Single}
use Rattle.vt_screen.specs.Limits.{line_count}
use Rattle.vt_screen.specs.Table.{nth, table}
use Rattle.vt_term.specs.Rows.{named}
use Rattle.screen_page.specs.Entries.{Change, Was, Is, Entry, ShownRow}

-- a row with nothing on it
abbrev pub empty_row : ShownRow
empty_row = record { size = Single; runs = [] }

-- the rows before all entries
unfoldable pub empty_rows : List ShownRow
empty_rows = table line_count (λ _. empty_row)

-- the row of a line
abbrev pub shown_at : List ShownRow → ℕ → ShownRow
shown_at rows line = nth empty_row rows line

-- what a line becomes: what it was, what another line was before the entry, or the row that is given
abbrev pub line_after : List ShownRow → ℕ → Option Change → ShownRow
line_after rows line None = shown_at rows line
line_after rows line (Some (Was other)) = shown_at rows other
line_after rows line (Some (Is row)) = row

-- the rows after an entry
abbrev pub rows_after : List ShownRow → Entry → List ShownRow
rows_after rows entry =
    table line_count (λ line. line_after rows line (named entry.changes line))

-- the rows after all these entries
abbrev pub rows_from : List ShownRow → List Entry → List ShownRow
rows_from rows [] = rows
rows_from rows (entry ∷ rest) = rows_from (rows_after rows entry) rest

abbrev pub folded : List Entry → List ShownRow
folded entries = rows_from empty_rows entries
