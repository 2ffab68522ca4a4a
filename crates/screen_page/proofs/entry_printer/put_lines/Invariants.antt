use Rattle.std.proofs.Common.{take}
use Rattle.std.specs.List.{flat_map}
use Rattle.held.specs.Held.{Wrote}
use Rattle.screen_page.specs.Parts.{line_text}
use Rattle.screen_page.proofs.entry_printer.put_lines.Given as goal

-- the lines so far have gone out
abbrev pub invariant-loop-line : goal.invariant-loop-line
invariant-loop-line g l = Wrote g.W.Write.contents l.fn.writer l.fn.held.items l.writer l.held.items
    (flat_map (line_text l.rows.rows l.screen.picture.rows) (take l.line-index l.lines))
