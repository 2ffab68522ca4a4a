use Rattle.std.proofs.Common.{take}
use Rattle.std.specs.List.{flat_map}
use Rattle.tape_core.specs.Devices.{Gave}
use Rattle.screen_picture.specs.Strokes.{stroke_text}
use Rattle.screen_picture.proofs.strokes.put_runs.Given as goal

-- the strokes of the runs so far were given
abbrev pub invariant-loop-run : goal.invariant-loop-run
invariant-loop-run g l = Gave g.W.Write.contents l.fn.writer l.writer (flat_map (stroke_text l.reversed l.row) (take l.run-index l.runs))
