-- What holds of every page of a terminal of today.
use Rattle.std.specs.Prelude.{◌≡◌, ℕ, ◌+◌, ◌^◌, ◌<◌, ◌≤◌, All, not, List, Some, length, map, slice_index_or, take}
use Rattle.tape_core.specs.Due.{due_time, first}
use Rattle.tape_core.specs.Seconds.{last_moment}
use Rattle.tape_core.specs.Tape.{Tape, fits}
use Rattle.xterm_term.specs.Console.{Console}
use Rattle.xterm_term.specs.Size.{IsSize}
use Rattle.xterm_page.specs.Entries.{Change, Was, Is, Entry, ShownRun, console_by, entries, first_entry, shown}
use Rattle.xterm_page.specs.EntryText.{data_text}
use Rattle.xterm_page.specs.Folded.{folded}
use Rattle.xterm_page.specs.Reading.{Data, data_read}

-- entries that were folded give what stands on a terminal: its rows, as they are shown, and by the last entry whether it
-- is reversed, whether the cursor is hidden, and where it stands
pub record IsFolded (lines : ℕ) (all : List Entry) (last : Entry) (console : Console) : Type 0 where
  pub rows : folded lines all ≡ map shown console.picture.rows
  pub reversed : last.reversed ≡ console.modes.reverse_screen
  pub hidden : last.hidden ≡ not console.modes.cursor_shown
  pub line : last.line ≡ console.picture.line
  pub column : last.column ≡ console.picture.column

-- entry n of a recording
abbrev pub entry_behind : ℕ → ℕ → Tape → ℕ → Entry
entry_behind columns lines tape count = slice_index_or (entries columns lines tape) count first_entry

-- for every size, recording and count of chunks, the entries up to that count's give what stands on the terminal after so
-- many chunks; and each is told as due when its chunk is, the first at 0
pub record PageReplays : Type 0 where
  pub folds : (columns lines : ℕ) (tape : Tape) (count : ℕ) → IsSize columns lines → count ≤ length tape.chunks
      → IsFolded lines (take (count + 1) (entries columns lines tape)) (entry_behind columns lines tape count)
      (console_by columns lines (first tape.chunks count))
  pub begins : (columns lines : ℕ) (tape : Tape) → (entry_behind columns lines tape 0).due ≡ 0
  pub due : (columns lines : ℕ) (tape : Tape) (index : ℕ) → index < length tape.chunks
      → (entry_behind columns lines tape (index + 1)).due ≡ due_time tape.chunks index
  pub whole : (columns lines : ℕ) (tape : Tape) → length (entries columns lines tape) ≡ length tape.chunks + 1

-- ---- reading

-- numbers below 2^64
pub record IsShortRun (run : ShownRun) : Type 0 where
  pub kind : run.kind < 2 ^ 64
  pub ink : run.ink < 2 ^ 64
  pub paper : run.paper < 2 ^ 64

abbrev pub IsShortChange : ℕ × Change → Type 0
IsShortChange (line, Was other) = (line < 2 ^ 64) × (other < 2 ^ 64)
IsShortChange (line, Is row) = (line < 2 ^ 64) × All IsShortRun row

-- an entry up to the greatest moment, with numbers below 2^64
pub record IsWritable (entry : Entry) : Type 0 where
  pub due : entry.due ≤ last_moment
  pub line : entry.line < 2 ^ 64
  pub column : entry.column < 2 ^ 64
  pub changes : All IsShortChange entry.changes

-- what the page of a recording is to tell
abbrev pub data_of : ℕ → ℕ → Tape → Data
data_of columns lines tape = record { columns = columns; lines = lines; entries = entries columns lines tape }

-- the data of such entries is read as their size and those entries, and so is that of every recording; so recordings of
-- the same data have the same size and entries
pub record PageReadsBack : Type 0 where
  pub texts : (columns lines : ℕ) (all : List Entry) → columns < 2 ^ 64 → lines < 2 ^ 64 → All IsWritable all
      → data_read (data_text columns lines all) ≡ Some (record { columns = columns; lines = lines; entries = all })
  pub page : (columns lines : ℕ) (tape : Tape) → IsSize columns lines → fits tape
      → data_read (data_text columns lines (entries columns lines tape)) ≡ Some (data_of columns lines tape)
  pub apart : (columns lines : ℕ) (tape : Tape) (columns' lines' : ℕ) (tape' : Tape)
      → IsSize columns lines → fits tape → IsSize columns' lines' → fits tape'
      → data_text columns lines (entries columns lines tape) ≡ data_text columns' lines' (entries columns' lines' tape')
      → data_of columns lines tape ≡ data_of columns' lines' tape'
