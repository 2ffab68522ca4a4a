use Rattle.std.proofs.Common.{◌-◌, ◌<◌, take}
use Rattle.std.specs.List.{All}
use Rattle.screen_print.specs.Quiet.{LineStays}
use Rattle.screen_print.specs.Stills.{still_of}
use Rattle.screen_print.proofs.quiet.rows_above_stand_alone.Given as goal

-- the rows above the lines so far stand alone
abbrev pub invariant-loop-line : goal.invariant-loop-line
invariant-loop-line l =
    All (λ line. 1 < line → LineStays l.text (still_of l.after.console) (still_of l.after.console) (line - 1)) (take l.line-index l.lines)
