use Rattle.std.proofs.Common.{take}
use Rattle.std.specs.List.{flat_map}
use Rattle.held.specs.Held.{Wrote}
use Rattle.screen_rows.specs.RowText.{printed}
use Rattle.screen_page.specs.EntryText.{string_byte}
use Rattle.screen_page.proofs.rows.put_characters.Given as goal

-- the characters so far have gone out
abbrev pub invariant-loop-cell : goal.invariant-loop-cell
invariant-loop-cell g l = Wrote g.W.Write.contents l.fn.writer l.fn.held.items l.writer l.held.items
    (flat_map string_byte (flat_map printed (take l.cell-index l.cells)))
