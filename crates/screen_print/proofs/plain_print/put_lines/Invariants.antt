use Rattle.std.proofs.Common.{◌-◌}
use Rattle.tape_core.specs.Devices.{Gave}
use Rattle.screen_print.proofs.PlainLemmas.{first_lines}
use Rattle.screen_print.proofs.plain_print.put_lines.Given as goal

-- the lines before this one have gone out
abbrev pub invariant-loop-line : goal.invariant-loop-line
invariant-loop-line g l =
    Gave g.W.Write.contents l.fn.writer l.writer (first_lines l.fn.screen.picture (l.line - 1))
