use Rattle.std.proofs.Common.{take}
use Rattle.std.specs.List.{flat_map}
use Rattle.tape_core.specs.Devices.{Gave}
use Rattle.screen_page.specs.Title.{title_character}
use Rattle.screen_page.proofs.title.put_title.Given as goal

-- the characters so far have gone out
abbrev pub invariant-loop-character : goal.invariant-loop-character
invariant-loop-character g l =
    Gave g.W.Write.contents l.fn.writer l.writer (flat_map title_character (take l.character-index l.title))
