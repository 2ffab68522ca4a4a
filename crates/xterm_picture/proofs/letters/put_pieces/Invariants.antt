use Rattle.std.proofs.Common.{◌-◌}
use Rattle.tape_core.specs.Devices.{Gave}
use Rattle.xterm_picture.specs.Letters.{begins_span, span_text}
use Rattle.xterm_picture.proofs.GroupLemmas.{GroupsGone}
use Rattle.xterm_picture.proofs.letters.put_pieces.Given as goal

-- the pieces before this place have gone out
abbrev pub invariant-loop-at : goal.invariant-loop-at
invariant-loop-at g l =
    GroupsGone (Gave g.W.Write.contents l.fn.writer l.writer) (span_text l.reversed l.cells l.run) (begins_span l.cells l.run.before) l.run.before l.at l.run.end

abbrev pub decreases-loop-at : goal.decreases-loop-at
decreases-loop-at g l = l.run.end - l.at
