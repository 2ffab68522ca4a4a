use Rattle.std.proofs.Common.{take, ◌++◌, encode_utf8}
use Rattle.std.specs.List.{flat_map}
use Rattle.held.specs.Held.{Wrote}
use Rattle.screen_page.specs.EntryText.{string_byte}
use Rattle.xterm_page.proofs.rows.put_cell.Given as goal

-- the character and the marks so far have gone out
abbrev pub invariant-loop-n : goal.invariant-loop-n
invariant-loop-n g l = Wrote g.W.Write.contents l.fn.writer l.fn.held.items l.writer l.held.items
    (flat_map string_byte (encode_utf8 l.fn.cell.character) ++ flat_map string_byte (flat_map encode_utf8 (take l.n l.fn.cell.marks)))
