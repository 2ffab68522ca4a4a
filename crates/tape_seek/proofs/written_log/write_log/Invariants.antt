use Rattle.std.proofs.Common.{take}
use Rattle.std.specs.List.{flat_map}
use Rattle.tape_core.specs.Devices.{Gave}
use Rattle.tape_seek.specs.WrittenLog.{log_line}
use Rattle.tape_seek.proofs.written_log.write_log.Given as goal

-- the writer was given the text of the edits so far
abbrev pub invariant-loop-edit : goal.invariant-loop-edit
invariant-loop-edit g l = Gave g.W.Write.contents l.fn.writer l.writer (flat_map log_line (take l.edit-index l.edits))
