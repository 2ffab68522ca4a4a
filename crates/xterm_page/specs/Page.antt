-- The page of a recording of a terminal of today: one HTML file that plays it, and seeks in it (ours).
use Rattle.std.specs.Prelude.{ℕ, List, ◌++◌}
use Rattle.tape_core.specs.Tape.{Tape}
use Rattle.screen_page.specs.Page.{front, tail}
use Rattle.xterm_page.specs.Entries.{entries}
use Rattle.xterm_page.specs.EntryText.{data_text}

-- the page with a title of these characters: the player around the title, twice, and the size and the entries of a
-- recording that a terminal of so many columns and lines plays
unfoldable pub page_text : List ℕ → ℕ → ℕ → Tape → List ℕ
page_text title columns lines tape = front title ++ data_text columns lines (entries columns lines tape) ++ tail
