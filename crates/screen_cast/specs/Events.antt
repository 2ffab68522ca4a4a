-- The events of a cast: what a player is told of each chunk, by what the chunk changes on the screen (ours).
use Rattle.std.specs.Prelude.{ℕ, ◌+◌, Bool, List, [], ◌∷◌, ◌++◌, ◌==◌, ◌&&◌, ◌||◌, codes, length, nat_lt, not, if◌then◌else◌}
use Rattle.std.specs.List.{flat_map, range_with_len}
use Rattle.tape_core.specs.Due.{due_time, indices}
use Rattle.tape_core.specs.Tape.{Tape}
use Rattle.vt_screen.specs.Limits.{line_count}
use Rattle.vt_term.specs.declared.profile.Profile.{Profile}
use Rattle.screen_rows.specs.SameRows.{changed_lines}
use Rattle.screen_print.specs.Stills.{Still}
use Rattle.screen_print.specs.Walk.{still_after}
use Rattle.screen_cast.specs.Drawn.{drawn_text, is_either}

-- output for the player's terminal, or a size that it takes
pub data EventKind : Type 0 where
  Output : EventKind
  Resize : EventKind

-- an event: its moment in microseconds, its kind and its text
pub record Event : Type 0 where
  pub moment : ℕ
  pub kind : EventKind
  pub text : List ℕ

-- ---- what a chunk changes

-- whether the columns differ
abbrev pub is_resized : Still → Still → Bool
is_resized before after = is_either before.wide after.wide

-- whether every row is drawn: the columns or the reversed flag differ
abbrev pub is_all_drawn : Still → Still → Bool
is_all_drawn before after =
    is_resized before after || is_either before.reversed after.reversed

-- the lines that are drawn: all, or those that differ
abbrev pub drawn_lines : Still → Still → List ℕ
drawn_lines before after =
    if is_all_drawn before after
    then range_with_len 1 line_count else changed_lines before.rows after.rows

-- whether the cursor differs
abbrev pub is_moved : Still → Still → Bool
is_moved before after = not ((before.line == after.line) && (before.column == after.column))

-- whether there is something to draw: a row, the columns, the reversed flag or the cursor differs
abbrev pub is_drawn : Still → Still → Bool
is_drawn before after =
    nat_lt 0 (length (drawn_lines before after)) || is_moved before after

-- ---- events

-- columns and lines of a screen
unfoldable pub size_text : Bool → List ℕ
size_text wide = if wide then codes "132x24" else codes "80x24"

-- a size that is taken at a moment
abbrev pub resize : ℕ → List ℕ → Event
resize moment text = record { moment = moment; kind = Resize; text = text }

-- what is drawn at a moment
abbrev pub output : ℕ → List ℕ → Event
output moment text = record { moment = moment; kind = Output; text = text }

-- the screen's new size, where the columns differ ..
abbrev pub resizes : ℕ → Still → Still → List Event
resizes due before after =
    if is_resized before after
    then resize due (size_text after.wide) ∷ [] else []

-- .. and what is drawn, where there is something to draw
abbrev pub outputs : ℕ → Still → Still → List Event
outputs due before after =
    if is_drawn before after
    then output due (drawn_text after (drawn_lines before after)) ∷ [] else []

-- the events of a chunk: when it is due, and what stands before and after it alone
abbrev pub events_of : ℕ → Still → Still → List Event
events_of due before after = resizes due before after ++ outputs due before after

-- the events of the chunk at this place of a recording
abbrev pub events_at : Profile → Tape → ℕ → List Event
events_at profile tape index =
    events_of (due_time tape.chunks index) (still_after profile tape index) (still_after profile tape (index + 1))

-- the events of a recording
abbrev pub events : Profile → Tape → List Event
events profile tape = flat_map (events_at profile tape) (indices tape.chunks)
