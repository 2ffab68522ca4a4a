-- Private: how much of a chunk is played before a text is looked for again.
use Rattle.std.specs.Int.{bit_at}
use Rattle.std.specs.Prelude.{◌≡◌, ◌⊎◌, true, ℕ, ◌+◌, ◌*◌, ◌-◌, ◌%◌, ◌<◌, ◌≤◌, List, [], drop, length, slice_index_or, take}
use Rattle.std.specs.List.{flat_map}
use Rattle.sheet.specs.declared.cell.Kind.TheVariants.{Narrow}
use Rattle.sheet.specs.declared.rendition.Colour.TheVariants.{Default}
use Rattle.sheet.specs.Cells.{Cell, blank}
use Rattle.sheet.specs.Grid.{row_at}
use Rattle.standings.specs.Kept.{Keeps, room_in}
use Rattle.standings.specs.Rows.{Row, row_below}
use Rattle.standings.specs.Standing.{begins, line_text, standing}
use Rattle.standings.specs.Written.{rows_written}
use Rattle.xterm_rows.specs.RowText.{characters}
use Rattle.xterm_rows.specs.Runs.{cell_behind}
use Rattle.xterm_term.specs.Term.{Term, play}
use Rattle.xterm_print.specs.FindRows.{rows_read}

-- a character of one column without marks
pub record IsPlain (cell : Cell) : Type 0 where
  pub kind : cell.kind ≡ Narrow
  pub alone : cell.marks ≡ []

-- no two neighbours of a text are these
abbrev pub AreApart : List ℕ → ℕ → ℕ → Type 0
AreApart text one other = (k : ℕ) → k + 1 < length text → slice_index_or text k 0 ≡ one → slice_index_or text (k + 1) 0 ≡ other → ⊥

-- each character that a text has behind its first one is marked, and each pair of neighbours, by what is left of a number modulo 64
abbrev pub AreFollowers : List ℕ → ℕ → ℕ → Type 0
AreFollowers text marks pairs =
    (k : ℕ) → k + 1 < length text
    → (bit_at marks (slice_index_or text (k + 1) 0 % 64) ≡ 1) × (bit_at pairs ((slice_index_or text k 0 + 2 * slice_index_or text (k + 1) 0) % 64) ≡ 1)

-- letters that may be put over the first cells: these are plain, and no neighbours of the text come to be the last one put and the next cell left
pub record GoOver (text : List ℕ) (cells : List Cell) (letters : List ℕ) : Type 0 where
  pub room : length letters ≤ length cells
  pub plain : (k : ℕ) → k < length letters → IsPlain (cell_behind cells k)
  pub apart : (k : ℕ) → 0 < k → k < length letters → AreApart text (slice_index_or letters (k - 1) 0) (cell_behind cells k).character

-- behind so many cells all are blank
abbrev pub BlankFrom : List Cell → ℕ → Type 0
BlankFrom cells used = (k : ℕ) → used ≤ k → slice_index_or cells k (blank Default) ≡ blank Default

-- the rows of the sheet that is shown once these bytes are played ..
abbrev pub rows_after : Term → List ℕ → List Row
rows_after x played = rows_read x.console.picture.lines (play x played).console.picture.rows

-- .. or so many of them
abbrev pub rows_behind : Term → List ℕ → ℕ → List Row
rows_behind x bytes count = rows_after x (take count bytes)

-- where a text stands nowhere before so many bytes and behind them, it stands nowhere in between
abbrev pub NoneBetween : List ℕ → Term → List ℕ → ℕ → Type 0
NoneBetween text x bytes taken =
    standing text (rows_behind x bytes 0) ≡ [] → standing text (rows_behind x bytes taken) ≡ []
    → (count : ℕ) → count < taken → standing text (rows_behind x bytes count) ≡ []

-- each place of a text stays at so many bytes ..
abbrev pub StaysOn : List ℕ → Term → List ℕ → ℕ → Type 0
StaysOn text x bytes taken = (count : ℕ) → count < taken → Keeps text (rows_behind x bytes count) (rows_behind x bytes (count + 1))

-- .. or at all but the last, up to which the rows are the same then
pub record IsQuiet (text : List ℕ) (x : Term) (bytes : List ℕ) (taken : ℕ) : Type 0 where
  pub inside : (count : ℕ) → count + 1 < taken → Keeps text (rows_behind x bytes count) (rows_behind x bytes (count + 1))
  pub last : (rows_behind x bytes (taken - 1) ≡ rows_behind x bytes 0) ⊎ Keeps text (rows_behind x bytes (taken - 1)) (rows_behind x bytes taken)

-- the characters of the cells left of the cursor
abbrev pub left_of_cursor : Term → List ℕ
left_of_cursor x = flat_map characters (take (x.console.picture.column - 1) (row_at x.console.picture.rows x.console.picture.line))

-- so many bytes write these letters over characters of the cursor's row, from the one at it on
pub record WritesOver (x : Term) (bytes letters : List ℕ) (taken : ℕ) : Type 0 where
  pub room : length (left_of_cursor x) + length letters ≤ length (row_below (rows_behind x [] 0) (x.console.picture.line - 1)).characters
  pub rows : rows_behind x bytes taken ≡ rows_written (x.console.picture.line - 1) (length (left_of_cursor x)) letters (rows_behind x [] 0)

-- wherever a text begins, but in the rows below the cursor's, it ends left of the cursor, or in its own row
abbrev pub EndsLeft : List ℕ → Term → Type 0
EndsLeft text x =
    (k i : ℕ) → k ≤ x.console.picture.line - 1 → k < length (rows_behind x [] 0) → i < length (row_below (rows_behind x [] 0) k).characters
    → begins text (line_text (drop k (rows_behind x [] 0))) i ≡ true
    → i + length text ≤ room_in (rows_behind x [] 0) (x.console.picture.line - 1) (length (left_of_cursor x)) k
