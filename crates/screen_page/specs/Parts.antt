-- Private: the parts of a page in the order in which they are written.
use Rattle.std.specs.Prelude.{ℕ, ◌≤◌, List, ◌∷◌, ◌++◌}
use Rattle.vt_screen.specs.declared.cell.Row.{Row}
use Rattle.vt_screen.specs.Limits.{line_count}
use Rattle.screen_print.specs.Stills.{Still}
use Rattle.screen_print.specs.Walk.{ChunkText}
use Rattle.screen_page.specs.Entries.{change_of, entry_of, first_entry}
use Rattle.screen_page.specs.EntryText.{entry_front, entry_text, named_text, next_text}
use Rattle.screen_page.specs.Page.{front, tail}

-- the data's beginning: the entry before all chunks
unfoldable pub first_text : List ℕ
first_text = 91 ∷ entry_text first_entry

-- what stands before the chunks' entries ..
abbrev pub opening : List ℕ → List ℕ
opening title = front title ++ first_text

-- .. the entry of each ..
abbrev pub chunk_text : ChunkText
chunk_text index due before after = next_text (entry_of due before after)

-- .. and what stands behind them
abbrev pub closing : List ℕ
closing = 93 ∷ tail

-- when a chunk is due, the flags and the cursor
unfoldable pub front_text : ℕ → Still → List ℕ
front_text due after = entry_front (entry_of due after after)

-- a line that a chunk changes
abbrev pub line_text : List Row → List Row → ℕ → List ℕ
line_text before after line = named_text (change_of before after line)

-- a line of the screen
pub record IsLine (line : ℕ) : Type 0 where
  pub low : 1 ≤ line
  pub high : line ≤ line_count
