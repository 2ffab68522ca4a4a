use Rattle.tape_core.specs.Devices.{Gave}
use Rattle.xterm_rows.proofs.RangeLemmas.{texts_from}
use Rattle.xterm_picture.specs.Grounds.{row_grounds}
use Rattle.xterm_picture.proofs.grounds.put_lines.Given as goal

-- the grounds of the lines before this one have gone out
abbrev pub invariant-loop-line : goal.invariant-loop-line
invariant-loop-line g l = Gave g.W.Write.contents l.fn.writer l.writer (texts_from (row_grounds l.fn.screen.picture.rows) 1 l.line)
