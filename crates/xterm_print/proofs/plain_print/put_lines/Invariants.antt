use Rattle.std.proofs.Common.{◌-◌}
use Rattle.tape_core.specs.Devices.{Gave}
use Rattle.xterm_rows.specs.RowText.{printed_line}
use Rattle.xterm_print.proofs.PlainLemmas.{first_texts}
use Rattle.xterm_print.proofs.plain_print.put_lines.Given as goal

-- the lines before this one have gone out
abbrev pub invariant-loop-line : goal.invariant-loop-line
invariant-loop-line g l =
    Gave g.W.Write.contents l.fn.writer l.writer (first_texts printed_line l.fn.screen.picture.rows (l.line - 1))
