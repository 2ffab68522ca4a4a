-- How far a session has been replayed, and where its working terminal stands: two numbers that are told from the calls
-- alone.
use Rattle.std.specs.Prelude.{ℕ, ◌-◌, ◌*◌, ◌/◌, ◌&&◌, Option, Some, None, min, max, nat_lt, nat_le, if◌then◌else◌}
use Rattle.tape_seek.specs.declared.edits.Edit.{Edit}
use Rattle.tape_seek.specs.Edits.{first_touched}

-- the frontier: up to this count every chunk was fed, and what the seeks kept is still right; the head: the count at
-- which the working terminal stands
pub record Marks : Type 0 where
  pub frontier : ℕ
  pub head : ℕ

-- the greatest multiple of `every` that is at most n
abbrev pub multiple_below : ℕ → ℕ → ℕ
multiple_below every n = n / every * every

-- a session that was just opened
abbrev pub first_marks : Marks
first_marks = record { frontier = 0; head = 0 }

-- Nothing that was kept past this count is right any more.
abbrev pub after_cut : ℕ → ℕ → Marks → Marks
after_cut every first marks =
    let frontier = min marks.frontier first in
    let head = if nat_le marks.head frontier then marks.head else multiple_below every frontier in
    record { frontier = frontier; head = head }

-- the edit touches this chunk first, if any
abbrev pub after_touching : ℕ → Option ℕ → Marks → Marks
after_touching every None marks = marks
after_touching every (Some first) marks = after_cut every first marks

-- An accepted edit. Retime and Cap leave both numbers.
abbrev pub after_edit : ℕ → Edit → Marks → Marks
after_edit every edit marks = after_touching every (first_touched edit) marks

-- an answered seek to this count
abbrev pub after_seek : ℕ → Marks → Marks
after_seek count marks = record { frontier = max marks.frontier count; head = count }

-- a refused seek
abbrev pub after_refused_seek : ℕ → Marks → Marks
after_refused_seek every marks = record { frontier = marks.frontier; head = multiple_below every marks.frontier }

-- where a seek to this count starts: the latest of the stored terminals, the head and the reset terminal that isn't
-- past it
abbrev pub start_of : ℕ → ℕ → Marks → ℕ
start_of every count marks =
    let stored = multiple_below every (min count marks.frontier) in
    if nat_lt stored marks.head && nat_le marks.head count then marks.head else stored

-- how many chunks it feeds
abbrev pub fed_by : ℕ → ℕ → Marks → ℕ
fed_by every count marks = count - start_of every count marks
