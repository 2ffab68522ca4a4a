-- The page of a recording: one HTML file that plays it, and seeks in it (ours).
use Rattle.std.specs.Prelude.{ℕ, List, ◌++◌}
use Rattle.tape_core.specs.Tape.{Tape}
use Rattle.vt_term.specs.declared.profile.Profile.{Profile}
use Rattle.screen_page.specs.declared.player.TheConstants.{HEAD, MIDDLE, REST, TAIL}
use Rattle.screen_page.specs.Entries.{entries}
use Rattle.screen_page.specs.EntryText.{data_text}
use Rattle.screen_page.specs.Title.{title_text}

-- the player, in HTML with its style and its script: what stands before the title of every page, between it and the same
-- as a heading, between this and the data, and behind the data
unfoldable pub head : List ℕ
head = HEAD.now

unfoldable pub middle : List ℕ
middle = MIDDLE.now

unfoldable pub rest : List ℕ
rest = REST.now

unfoldable pub tail : List ℕ
tail = TAIL.now

-- what stands before the data: the player around the title, twice
abbrev pub front : List ℕ → List ℕ
front title = head ++ title_text title ++ middle ++ title_text title ++ rest

-- the page with a title of these characters: the player, and the recording's entries
unfoldable pub page_text : List ℕ → Profile → Tape → List ℕ
page_text title profile tape = front title ++ data_text (entries profile tape) ++ tail
