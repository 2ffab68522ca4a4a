use Rattle.std.proofs.Common.{◌-◌}
use Rattle.xterm_print.specs.Kept.{FollowAll}
use Rattle.xterm_print.proofs.kept.kept_rows.Given as goal

-- the rows so far were copied
abbrev pub invariant-loop-line : goal.invariant-loop-line
invariant-loop-line l =
    FollowAll (l.line - 1) l.fn.screen.picture.columns l.rows.items l.fn.screen.picture.rows
