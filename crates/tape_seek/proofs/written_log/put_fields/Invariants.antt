use Rattle.std.proofs.Common.{take}
use Rattle.std.specs.List.{flat_map}
use Rattle.tape_core.specs.Devices.{Gave}
use Rattle.tape_seek.specs.Fields.{spaced}
use Rattle.tape_seek.proofs.written_log.put_fields.Given as goal

-- the writer was given the text of the fields so far
abbrev pub invariant-loop-field : goal.invariant-loop-field
invariant-loop-field g l = Gave g.W.Write.contents l.fn.writer l.writer (flat_map spaced (take l.field-index l.fields))
