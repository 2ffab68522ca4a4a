use Rattle.tape_core.specs.Devices.{Gave}
use Rattle.xterm_rows.proofs.RangeLemmas.{texts_from}
use Rattle.xterm_picture.specs.Strokes.{outline_text}
use Rattle.xterm_picture.proofs.strokes.put_outlines.Given as goal

-- the outlines before this place have gone out
abbrev pub invariant-loop-at : goal.invariant-loop-at
invariant-loop-at g l = Gave g.W.Write.contents l.fn.writer l.writer (texts_from (outline_text l.cells) l.fn.run.before l.at)
