use Rattle.tape_core.specs.Devices.{Gave}
use Rattle.xterm_rows.proofs.RangeLemmas.{texts_from}
use Rattle.xterm_picture.specs.Framed.{row_text}
use Rattle.xterm_picture.proofs.rows.put_rows.Given as goal

-- the lines before this one have gone out
abbrev pub invariant-loop-line : goal.invariant-loop-line
invariant-loop-line g l = Gave g.W.Write.contents l.fn.writer l.writer (texts_from (row_text l.reversed l.fn.screen.picture.rows) 1 l.line)
