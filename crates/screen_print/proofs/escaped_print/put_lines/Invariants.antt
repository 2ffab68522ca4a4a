use Rattle.std.proofs.Common.{◌≡◌, ◌-◌, take}
use Rattle.tape_core.specs.Devices.{Gave}
use Rattle.screen_print.specs.EscapedText.{first_pen, lines_text, pen_after_lines}
use Rattle.screen_print.proofs.escaped_print.put_lines.Given as goal

-- the lines before this one have gone out
abbrev pub invariant-loop-line : goal.invariant-loop-line
invariant-loop-line g l = record {
  took : Gave g.W.Write.contents l.fn.writer l.writer (lines_text first_pen 1 (take (l.line - 1) l.fn.screen.picture.rows));
  pen : l.pen ≡ pen_after_lines first_pen (take (l.line - 1) l.fn.screen.picture.rows);
}
