use Rattle.std.proofs.Common.{◌-◌, length}
use Rattle.tape_core.specs.Devices.{Gave}
use Rattle.xterm_picture.specs.Grounds.{begins_ground, ground_text}
use Rattle.xterm_picture.proofs.GroupLemmas.{GroupsGone}
use Rattle.xterm_picture.proofs.grounds.put_cells.Given as goal

-- the grounds before this place have gone out
abbrev pub invariant-loop-at : goal.invariant-loop-at
invariant-loop-at g l =
    GroupsGone (Gave g.W.Write.contents l.fn.writer l.writer) (ground_text l.cells l.line) (begins_ground l.cells) 0 l.at (length l.cells)

abbrev pub decreases-loop-at : goal.decreases-loop-at
decreases-loop-at g l = length l.cells - l.at
