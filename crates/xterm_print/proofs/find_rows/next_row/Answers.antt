use Rattle.std.proofs.Common.{arith, sym}
use Rattle.xterm_print.proofs.FindRowLemmas.{no_row}
use Rattle.xterm_print.proofs.find_rows.next_row.Goals as goal

pub returns-else-line-lines : goal.returns-else-line-lines
returns-else-line-lines c =
    sym (no_row c.args.screen.now.picture.rows c.args.line (omega (arith, c.cursor-cursor.ensures.sound.rows, c.lines.ensures.value, c.if-line-lines.false)))
