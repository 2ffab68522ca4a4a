use Rattle.std.proofs.Common.{◌-◌}
use Rattle.tape_core.specs.Devices.{Gave}
use Rattle.screen_picture.specs.Grounds.{row_grounds}
use Rattle.screen_picture.proofs.LineLemmas.{first_lines}
use Rattle.screen_picture.proofs.grounds.put_lines.Given as goal

-- the grounds of the lines before this one were given
abbrev pub invariant-loop-line : goal.invariant-loop-line
invariant-loop-line g l = Gave g.W.Write.contents l.fn.writer l.writer (first_lines (row_grounds l.fn.screen.picture.rows) (l.line - 1))
