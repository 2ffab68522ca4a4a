-- The entries of a page: what each chunk leaves of the screen, told by what it changes (ours).
use Rattle.std.specs.Prelude.{ℕ, ◌+◌, Bool, false, List, [], ◌∷◌, Option, Some, None, filter, map}
use Rattle.std.specs.List.{flat_map, range_with_len}
use Rattle.tape_core.specs.Due.{due_time, indices}
use Rattle.tape_core.specs.Tape.{Tape}
use Rattle.vt_screen.specs.declared.cell.Row.{Row}
use Rattle.vt_screen.specs.declared.cell.Size.{Size}
use Rattle.vt_screen.specs.Cells.{row_at}
use Rattle.vt_screen.specs.Limits.{line_count}
use Rattle.vt_term.specs.declared.profile.Profile.{Profile}
use Rattle.screen_rows.specs.RowText.{printed}
use Rattle.screen_rows.specs.SameRows.{changed_lines, same_row}
use Rattle.screen_print.specs.Stills.{Still}
use Rattle.screen_print.specs.Walk.{still_after}
use Rattle.screen_rows.specs.declared.runs.Run.{Run}
use Rattle.screen_rows.specs.Runs.{cells_of, kind_number, runs_of}

-- ---- rows

-- a run as a page shows it: the number of its kind, and its characters in UTF-8, of which glyphs 0 and 32 have one
pub record ShownRun : Type 0 where
  pub kind : ℕ
  pub characters : List ℕ

-- a row as a page shows it
pub record ShownRow : Type 0 where
  pub size : Size
  pub runs : List ShownRun

abbrev pub shown_run : Row → Run → ShownRun
shown_run row run = record {
  kind = kind_number run.kind;
  characters = flat_map printed (cells_of row run);
}

-- how a page shows a row
unfoldable pub shown : Row → ShownRow
shown row = record { size = row.size; runs = map (shown_run row) (runs_of row) }

-- ---- entries

-- what a line is now: what another line was before, or a row that no line was
pub data Change : Type 0 where
  Was : ℕ → Change
  Is : ShownRow → Change

-- an entry: when a chunk is due, and what stands on the screen after it: the columns (132 or else 80), whether the screen
-- is reversed, the cursor, and each line that the chunk changes
pub record Entry : Type 0 where
  pub due : ℕ
  pub wide : Bool
  pub reversed : Bool
  pub line : ℕ
  pub column : ℕ
  pub changes : List (ℕ × Change)

abbrev pub first_of : List ℕ → Option ℕ
first_of [] = None
first_of (line ∷ rest) = Some line

-- the first line that was this row
abbrev pub line_of : List Row → Row → Option ℕ
line_of rows row = first_of (filter (λ line. same_row (row_at rows line) row) (range_with_len 1 line_count))

abbrev pub change_by : Option ℕ → Row → Change
change_by (Some line) row = Was line
change_by None row = Is (shown row)

-- what a line is after a chunk
abbrev pub change_of : List Row → List Row → ℕ → ℕ × Change
change_of before after line = (line, change_by (line_of before (row_at after line)) (row_at after line))

-- the entry of a chunk: when it is due, and what stands before and after it
abbrev pub entry_of : ℕ → Still → Still → Entry
entry_of due before after = record {
  due = due;
  wide = after.wide;
  reversed = after.reversed;
  line = after.line;
  column = after.column;
  changes = map (change_of before.rows after.rows) (changed_lines before.rows after.rows);
}

-- the entry before all chunks: 80 columns, not reversed, the cursor at home, nothing changed
abbrev pub first_entry : Entry
first_entry = record { due = 0; wide = false; reversed = false; line = 1; column = 1; changes = [] }

-- the entry of the chunk at this place of a recording
abbrev pub entry_at : Profile → Tape → ℕ → Entry
entry_at profile tape index =
    entry_of (due_time tape.chunks index) (still_after profile tape index) (still_after profile tape (index + 1))

-- the entries of a recording: one before all chunks, and one for each
abbrev pub entries : Profile → Tape → List Entry
entries profile tape = first_entry ∷ map (entry_at profile tape) (indices tape.chunks)
