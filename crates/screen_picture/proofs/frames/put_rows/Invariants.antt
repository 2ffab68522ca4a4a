use Rattle.std.proofs.Common.{◌-◌}
use Rattle.tape_core.specs.Devices.{Gave}
use Rattle.screen_picture.specs.Framed.{row_text}
use Rattle.screen_picture.proofs.LineLemmas.{first_lines}
use Rattle.screen_picture.proofs.frames.put_rows.Given as goal

-- the rows before this one were given
abbrev pub invariant-loop-line : goal.invariant-loop-line
invariant-loop-line g l = Gave g.W.Write.contents l.fn.writer l.writer (first_lines (row_text l.reversed l.fn.screen.picture.rows) (l.line - 1))
