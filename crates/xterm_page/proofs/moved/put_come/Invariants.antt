use Rattle.held.specs.Held.{Wrote}
use Rattle.xterm_page.specs.Parts.{come_text}
use Rattle.xterm_page.proofs.moved.put_come.Given as goal

-- the lines before this one have gone out
abbrev pub invariant-loop-line : goal.invariant-loop-line
invariant-loop-line g l = Wrote g.W.Write.contents l.fn.writer l.fn.held.items l.writer l.held.items (come_text l.fn.from l.line l.fn.shift)
