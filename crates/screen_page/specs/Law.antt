-- What holds of every page.
use Rattle.std.specs.Prelude.{◌≡◌, ℕ, ◌+◌, ◌^◌, ◌<◌, ◌≤◌, All, List, Some, length, map, slice_index_or, take}
use Rattle.tape_core.specs.Due.{due_time}
use Rattle.tape_core.specs.Seconds.{last_moment}
use Rattle.tape_core.specs.Tape.{Tape, fits}
use Rattle.vt_term.specs.declared.profile.Profile.{Profile}
use Rattle.screen_print.specs.Stills.{Still}
use Rattle.screen_print.specs.Walk.{still_after}
use Rattle.screen_page.specs.Entries.{Change, Was, Is, Entry, ShownRun, entries, first_entry, shown}
use Rattle.screen_page.specs.EntryText.{data_text}
use Rattle.screen_page.specs.Folded.{folded}
use Rattle.screen_page.specs.Reading.{entries_read}

-- entries that were folded give what stands on a screen: its rows, as they are shown, and by the last entry its columns,
-- whether it is reversed, and its cursor
pub record IsFolded (all : List Entry) (last : Entry) (still : Still) : Type 0 where
  pub rows : folded all ≡ map shown still.rows
  pub wide : last.wide ≡ still.wide
  pub reversed : last.reversed ≡ still.reversed
  pub line : last.line ≡ still.line
  pub column : last.column ≡ still.column

-- entry n of a recording
abbrev pub entry_behind : Profile → Tape → ℕ → Entry
entry_behind profile tape count = slice_index_or (entries profile tape) count first_entry

-- for every recording and count of chunks, the entries up to that count's give what stands on the terminal after so many
-- chunks; and each is told as due when its chunk is, the first at 0
pub record PageReplays : Type 0 where
  pub folds : (profile : Profile) (tape : Tape) (count : ℕ) → count ≤ length tape.chunks
      → IsFolded (take (count + 1) (entries profile tape)) (entry_behind profile tape count)
      (still_after profile tape count)
  pub begins : (profile : Profile) (tape : Tape) → (entry_behind profile tape 0).due ≡ 0
  pub due : (profile : Profile) (tape : Tape) (index : ℕ) → index < length tape.chunks
      → (entry_behind profile tape (index + 1)).due ≡ due_time tape.chunks index
  pub whole : (profile : Profile) (tape : Tape) → length (entries profile tape) ≡ length tape.chunks + 1

-- ---- reading

abbrev pub IsShortRun : ShownRun → Type 0
IsShortRun run = run.kind < 2 ^ 64

abbrev pub IsShortChange : ℕ × Change → Type 0
IsShortChange (line, Was other) = (line < 2 ^ 64) × (other < 2 ^ 64)
IsShortChange (line, Is row) = (line < 2 ^ 64) × All IsShortRun row.runs

-- an entry up to the greatest moment, with numbers below 2^64
pub record IsWritable (entry : Entry) : Type 0 where
  pub due : entry.due ≤ last_moment
  pub line : entry.line < 2 ^ 64
  pub column : entry.column < 2 ^ 64
  pub changes : All IsShortChange entry.changes

-- the data of such entries is read as those entries, and so is that of a recording
pub record PageReadsBack : Type 0 where
  pub texts : (all : List Entry) → All IsWritable all → entries_read (data_text all) ≡ Some all
  pub page : (profile : Profile) (tape : Tape) → fits tape
      → entries_read (data_text (entries profile tape)) ≡ Some (entries profile tape)
