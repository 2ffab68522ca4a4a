use Rattle.std.proofs.Common.{◌≡◌}
use Rattle.tape_core.specs.Devices.{Gave}
use Rattle.xterm_rows.proofs.RangeLemmas.{texts_from}
use Rattle.xterm_picture.specs.Strokes.{dot_text, left_before, top_before}
use Rattle.xterm_picture.proofs.dots.put_dots.Given as goal

-- the dots before this one have gone out, and the last raised one of them stands there
abbrev pub invariant-loop-dot : goal.invariant-loop-dot
invariant-loop-dot g l = record {
  gave : Gave g.W.Write.contents l.fn.writer l.writer (texts_from (dot_text l.pattern) 0 l.dot);
  left : l.left ≡ left_before l.pattern l.dot;
  top : l.top ≡ top_before l.pattern l.dot;
}
