-- The entries of a page: what each chunk leaves of the screen, told by what it changes (ours).
use Rattle.std.specs.Prelude.{ℕ, ◌+◌, ◌-◌, Bool, false, not, List, [], ◌∷◌, Option, Some, None, drop, filter, length, map, take}
use Rattle.std.specs.List.{flat_map, range_with_len}
use Rattle.sheet.specs.Cells.{Cell}
use Rattle.sheet.specs.Grid.{row_at}
use Rattle.tape_core.specs.Due.{due_time, first, indices}
use Rattle.tape_core.specs.Tape.{Tape}
use Rattle.xterm_term.specs.Console.{Console}
use Rattle.xterm_term.specs.Term.{play, reset_term}
use Rattle.xterm_rows.specs.Groups.{starts}
use Rattle.xterm_rows.specs.Ink.{colour_number, inked}
use Rattle.xterm_rows.specs.RowText.{printed}
use Rattle.xterm_rows.specs.Runs.{begins, kind_number, run_at}
use Rattle.xterm_rows.specs.declared.runs.Run.{Run}
use Rattle.screen_page.specs.Entries.{first_of}
use Rattle.xterm_page.specs.Same.{same_row}

-- ---- rows

-- a run as a page shows it: its kind and its colours by their numbers, and its characters in UTF-8
pub record ShownRun : Type 0 where
  pub kind : ℕ
  pub ink : ℕ
  pub paper : ℕ
  pub characters : List ℕ

-- the characters of a run
abbrev pub characters_of : List Cell → Run → List ℕ
characters_of cells run = flat_map printed (take (run.end - run.before) (drop run.before cells))

unfoldable pub shown_run : List Cell → Run → ShownRun
shown_run cells run = record {
  kind = kind_number run.kind;
  ink = colour_number run.kind.rendition.ink;
  paper = colour_number run.kind.rendition.paper;
  characters = characters_of cells run;
}

-- the run that begins at a place
abbrev pub shown_at : List Cell → ℕ → ShownRun
shown_at cells at = shown_run cells (run_at cells at)

-- how a page shows cells, and a row: its inked cells
unfoldable pub cells_shown : List Cell → List ShownRun
cells_shown cells = map (shown_at cells) (starts (begins cells) 0 (length cells))

unfoldable pub shown : List Cell → List ShownRun
shown row = cells_shown (inked row)

-- ---- entries

-- what a line is now: what another line was before, or a row that no line was
pub data Change : Type 0 where
  Was : ℕ → Change
  Is : List ShownRun → Change

-- an entry: when a chunk is due, and what stands on the screen after it: whether the screen is reversed, and whether the
-- cursor is hidden, the cursor, and each line that the chunk changes
pub record Entry : Type 0 where
  pub due : ℕ
  pub reversed : Bool
  pub hidden : Bool
  pub line : ℕ
  pub column : ℕ
  pub changes : List (ℕ × Change)

-- the first of so many lines that was this row
abbrev pub line_of : ℕ → List (List Cell) → List Cell → Option ℕ
line_of lines rows row = first_of (filter (λ line. same_row (row_at rows line) row) (range_with_len 1 lines))

abbrev pub change_by : Option ℕ → List Cell → Change
change_by (Some line) row = Was line
change_by None row = Is (shown row)

-- what a line is after a chunk
abbrev pub change_of : ℕ → List (List Cell) → List Cell → ℕ → ℕ × Change
change_of lines before row line = (line, change_by (line_of lines before row) row)

-- the lines whose cells differ
abbrev pub is_changed : List (List Cell) → List (List Cell) → ℕ → Bool
is_changed before after line = not (same_row (row_at before line) (row_at after line))

unfoldable pub changed_lines : ℕ → List (List Cell) → List (List Cell) → List ℕ
changed_lines lines before after = filter (is_changed before after) (range_with_len 1 lines)

unfoldable pub changes : ℕ → List (List Cell) → List (List Cell) → List (ℕ × Change)
changes lines before after =
    map (λ line. change_of lines before (row_at after line) line) (changed_lines lines before after)

-- the entry of a chunk: when it is due, the rows before it, and what stands after it
abbrev pub entry_of : ℕ → List (List Cell) → Console → Entry
entry_of due before after = record {
  due = due;
  reversed = after.modes.reverse_screen;
  hidden = not after.modes.cursor_shown;
  line = after.picture.line;
  column = after.picture.column;
  changes = changes after.picture.lines before after.picture.rows;
}

-- the entry before all chunks: not reversed, the cursor shown and at home, nothing changed
abbrev pub first_entry : Entry
first_entry = record { due = 0; reversed = false; hidden = false; line = 1; column = 1; changes = [] }

-- what stands on a terminal of so many columns and lines once these bytes were played
abbrev pub console_by : ℕ → ℕ → List ℕ → Console
console_by columns lines bytes = (play (reset_term columns lines) bytes).console

-- the entry of a chunk, by the bytes before it and by its end
abbrev pub entry_by : ℕ → ℕ → ℕ → List ℕ → List ℕ → Entry
entry_by columns lines due before after =
    entry_of due (console_by columns lines before).picture.rows (console_by columns lines after)

-- the entry of the chunk at this place of a recording
abbrev pub entry_at : ℕ → ℕ → Tape → ℕ → Entry
entry_at columns lines tape index =
    entry_by columns lines (due_time tape.chunks index) (first tape.chunks index) (first tape.chunks (index + 1))

-- the entries of a recording: one before all chunks, and one for each
abbrev pub entries : ℕ → ℕ → Tape → List Entry
entries columns lines tape = first_entry ∷ map (entry_at columns lines tape) (indices tape.chunks)
