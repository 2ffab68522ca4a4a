use Rattle.std.proofs.Common.{◌-◌}
use Rattle.tape_core.specs.Devices.{Gave}
use Rattle.screen_picture.proofs.LineLemmas.{first_lines}
use Rattle.screen_picture.proofs.PlainLemmas.{escaped_line}
use Rattle.screen_picture.proofs.picture_file.put_plain.Given as goal

-- the lines before this one were given
abbrev pub invariant-loop-line : goal.invariant-loop-line
invariant-loop-line g l = Gave g.W.Write.contents l.fn.writer l.writer (first_lines (escaped_line l.fn.screen.picture) (l.line - 1))
