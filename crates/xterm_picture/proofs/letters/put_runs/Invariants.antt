use Rattle.std.proofs.Common.{◌-◌, length}
use Rattle.tape_core.specs.Devices.{Gave}
use Rattle.xterm_rows.specs.Runs.{begins}
use Rattle.xterm_picture.specs.Letters.{run_letters}
use Rattle.xterm_picture.proofs.GroupLemmas.{GroupsGone}
use Rattle.xterm_picture.proofs.letters.put_runs.Given as goal

-- the runs before this place have gone out
abbrev pub invariant-loop-at : goal.invariant-loop-at
invariant-loop-at g l =
    GroupsGone (Gave g.W.Write.contents l.fn.writer l.writer) (run_letters l.reversed l.cells) (begins l.cells) 0 l.at (length l.cells)

abbrev pub decreases-loop-at : goal.decreases-loop-at
decreases-loop-at g l = length l.cells - l.at
