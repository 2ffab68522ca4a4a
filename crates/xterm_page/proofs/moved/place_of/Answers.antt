use Rattle.std.proofs.Common.{◌-◌, arith, sym}
use Rattle.xterm_page.proofs.ComeLemmas.{place_high, place_low}
use Rattle.xterm_page.proofs.moved.place_of.Goals as goal

pub returns-then-line-lt10 : goal.returns-then-line-lt10
returns-then-line-lt10 c = sym (place_low (c.args.line - 1) c.args.line (omega (arith, c.requires.low)) c.if-line-lt10.true)

pub returns-else-line-lt10 : goal.returns-else-line-lt10
returns-else-line-lt10 c = sym (place_high (c.args.line - 10) c.args.line (omega (arith, c.if-line-lt10.false)) c.requires.high)
