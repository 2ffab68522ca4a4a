use Rattle.std.proofs.Common.{◌≡◌, ◌-◌, take}
use Rattle.tape_core.specs.Devices.{Gave}
use Rattle.xterm_escaped.specs.EscapedText.{no_rendition, lines_text, rendition_after_lines}
use Rattle.xterm_state.specs.StateText.{sheet_rows}
use Rattle.xterm_state.proofs.opening.put_lines.Given as goal

-- the lines before this one have gone out
abbrev pub invariant-loop-line : goal.invariant-loop-line
invariant-loop-line g l = record {
  gave : Gave g.W.Write.contents l.fn.writer l.writer (lines_text no_rendition 1 (take (l.line - 1) (sheet_rows l.fn.alternate l.fn.screen.picture)));
  last : l.last ≡ rendition_after_lines no_rendition (take (l.line - 1) (sheet_rows l.fn.alternate l.fn.screen.picture));
}
