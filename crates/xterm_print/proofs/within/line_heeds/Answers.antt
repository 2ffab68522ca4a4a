use Rattle.std.proofs.Common.{arith, sym}
use Rattle.std.proofs.lemmas.Bool.Decides.{nat_tests}
use Rattle.xterm_print.proofs.WithinLemmas.{above_heeds, below_heeds}
use Rattle.xterm_print.proofs.within.line_heeds.Goals as goal

pub returns-then-line-lt1 : goal.returns-then-line-lt1
returns-then-line-lt1 c = sym (above_heeds c.args.screen.now.picture.rows c.args.line (grind (arith, nat_tests, c.if-line-lt1.true)))

pub returns-then-lines-line : goal.returns-then-lines-line
returns-then-lines-line c =
    sym (below_heeds c.args.screen.now.picture.rows c.args.line
    (grind (arith, nat_tests, c.if-lines-line.true, c.lines.ensures.value, c.cursor-cursor.ensures.sound.rows)))
