-- What a browser makes of entries: rows that each entry changes (ours).
use Rattle.std.specs.Prelude.{ℕ, List, [], ◌∷◌, Option, Some, None}
use Rattle.sheet.specs.Table.{nth, table}
use Rattle.vt_term.specs.Rows.{named}
use Rattle.xterm_page.specs.Entries.{Change, Was, Is, Entry, ShownRun}

-- the rows before all entries, of so many lines: nothing is on them
unfoldable pub empty_rows : ℕ → List (List ShownRun)
empty_rows lines = table lines (λ _. [])

-- the row of a line
abbrev pub row_of_line : List (List ShownRun) → ℕ → List ShownRun
row_of_line rows line = nth [] rows line

-- what a line becomes: what it was, what another line was before the entry, or the row that is given
abbrev pub line_after : List (List ShownRun) → ℕ → Option Change → List ShownRun
line_after rows line None = row_of_line rows line
line_after rows line (Some (Was other)) = row_of_line rows other
line_after rows line (Some (Is row)) = row

-- the rows after an entry
abbrev pub rows_after : ℕ → List (List ShownRun) → Entry → List (List ShownRun)
rows_after lines rows entry = table lines (λ line. line_after rows line (named entry.changes line))

-- the rows after all these entries
abbrev pub rows_from : ℕ → List (List ShownRun) → List Entry → List (List ShownRun)
rows_from lines rows [] = rows
rows_from lines rows (entry ∷ rest) = rows_from lines (rows_after lines rows entry) rest

abbrev pub folded : ℕ → List Entry → List (List ShownRun)
folded lines entries = rows_from lines (empty_rows lines) entries
