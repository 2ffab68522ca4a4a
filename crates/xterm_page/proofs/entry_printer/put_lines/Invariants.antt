use Rattle.std.proofs.Common.{take}
use Rattle.std.specs.List.{flat_map}
use Rattle.held.specs.Held.{Wrote}
use Rattle.xterm_page.specs.Parts.{renewed_text, told}
use Rattle.xterm_page.proofs.entry_printer.put_lines.Given as goal

-- the lines before this one have gone out
abbrev pub invariant-loop-at : goal.invariant-loop-at
invariant-loop-at g l = Wrote g.W.Write.contents l.fn.writer l.fn.held.items l.writer l.held.items
    (flat_map (λ one. flat_map (renewed_text l.fn.screen.picture.rows) (told one)) (take l.at l.changed))
