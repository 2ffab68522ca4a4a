-- Characters that are shown, and marks that join them.
use Rattle.std.specs.Prelude.{ℕ, ◌+◌, ◌-◌, Bool, false, List, nat_lt, ◌==◌, ◌&&◌, fold, if◌then◌else◌}
use Rattle.sheet.specs.declared.rendition.Colour.{Colour}
use Rattle.sheet.specs.declared.rendition.Rendition.{Rendition}
use Rattle.sheet.specs.Edits.{put, inserted, mark_added}
use Rattle.sheet.specs.Grid.{row_at, with_row}
use Rattle.xterm_screen.specs.Picture.{Picture}
use Rattle.xterm_screen.specs.Moves.{moved_to_left}
use Rattle.xterm_screen.specs.Scrolls.{indexed}

-- column 1 of the next line
abbrev pub next_line : Colour → Picture → Picture
next_line paper p = indexed paper (moved_to_left p)

-- a pending wrap is taken: it is cleared, and the cursor goes to column 1 of the next line (EK-VT100-UG
-- chapter 3, DECAWM; that it waits: xterm)
abbrev pub wrap_taken : Colour → Picture → Picture
wrap_taken paper p = if p.wrap then next_line paper p else p

-- how many columns a character takes
abbrev pub width : Bool → ℕ
width wide = if wide then 2 else 1

-- at the last column there is no room for a character of width 2
abbrev pub overhangs : Bool → Picture → Bool
overhangs wide p = wide && (p.column == p.columns)

-- where autowrap is set such a character goes to the next line (xterm, tmux)
abbrev pub line_found : Bool → Bool → Colour → Picture → Picture
line_found wide autowrap paper p = if autowrap && overhangs wide p then next_line paper p else p

-- before a character is put: a pending wrap is taken, and then a line is found where there is room
abbrev pub made_ready : Bool → Bool → Colour → Picture → Picture
made_ready wide autowrap paper p = line_found wide autowrap paper (wrap_taken paper p)

-- a character for which there is no room then is dropped (xterm, tmux)
abbrev pub is_dropped : Bool → Bool → Colour → Picture → Bool
is_dropped wide autowrap paper p = overhangs wide (made_ready wide autowrap paper p)

-- in insert mode as many blank cells as a character's width come in at the cursor first (ECMA-48 7.2.10, IRM)
abbrev pub room_made : Bool → Bool → Colour → Picture → Picture
room_made inserting wide paper p =
    if inserting
    then record p {
      rows = with_row p.line (inserted (width wide) p.column paper (row_at p.rows p.line)) p.rows;
    }
    else p

-- the cell at the cursor takes the character, and the next one is covered by one of width 2
abbrev pub character_written : ℕ → Bool → Rendition → Picture → Picture
character_written character wide rendition p = record p {
  rows = with_row p.line (put p.column character wide rendition (row_at p.rows p.line)) p.rows;
}

-- the cursor goes right by a width; past the last column it stays at the last one, and the wrap becomes pending
-- where autowrap is set (EK-VT100-UG chapter 3, DECAWM; pending: xterm)
abbrev pub advanced : ℕ → Bool → Picture → Picture
advanced by autowrap p =
    if nat_lt p.columns (p.column + by)
    then record p { column = p.columns; wrap = autowrap }
    else record p { column = p.column + by }

-- a character is put where there is room for it
abbrev pub character_put : ℕ → Bool → Rendition → Bool → Bool → Picture → Picture
character_put character wide rendition autowrap inserting p =
    advanced (width wide) autowrap
    (character_written character wide rendition (room_made inserting wide rendition.paper p))

-- a character is shown: the screen is made ready, and then it is put or dropped
abbrev pub shown : ℕ → Bool → Rendition → Bool → Bool → Picture → Picture
shown character wide rendition autowrap inserting p =
    let q = made_ready wide autowrap rendition.paper p in
    if overhangs wide q then q else character_put character wide rendition autowrap inserting q

-- characters of width 1 are shown one after another
abbrev pub run_shown : List ℕ → Rendition → Bool → Bool → Picture → Picture
run_shown characters rendition autowrap inserting p =
    fold (λ q character. shown character false rendition autowrap inserting q) p characters

-- the column where a mark joins what lies there: the cursor's where the wrap is pending, else the one left of it;
-- 0 where there is none (Unicode 3.6; which column: xterm)
abbrev pub mark_column : Picture → ℕ
mark_column p = if p.wrap then p.column else p.column - 1

-- a mark joins the character there, and is dropped where there is none (xterm)
abbrev pub mark_joined : ℕ → Picture → Picture
mark_joined mark p =
    if mark_column p == 0
    then p
    else record p { rows = with_row p.line (mark_added (mark_column p) mark (row_at p.rows p.line)) p.rows }
