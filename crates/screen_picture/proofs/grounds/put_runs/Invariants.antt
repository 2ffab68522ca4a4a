use Rattle.std.proofs.Common.{take}
use Rattle.std.specs.List.{flat_map}
use Rattle.tape_core.specs.Devices.{Gave}
use Rattle.screen_picture.specs.Grounds.{ground_text}
use Rattle.screen_picture.proofs.grounds.put_runs.Given as goal

-- the grounds of the runs so far were given
abbrev pub invariant-loop-run : goal.invariant-loop-run
invariant-loop-run g l = Gave g.W.Write.contents l.fn.writer l.writer (flat_map (ground_text l.line l.size) (take l.run-index l.runs))
