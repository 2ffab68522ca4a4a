use Rattle.std.proofs.Common.{take}
use Rattle.std.specs.List.{flat_map}
use Rattle.tape_core.specs.Devices.{Gave}
use Rattle.xterm_picture.specs.Attributes.{further_class}
use Rattle.xterm_picture.proofs.attributes.put_further.Given as goal

-- the classes so far have gone out
abbrev pub invariant-loop-letter : goal.invariant-loop-letter
invariant-loop-letter g l = Gave g.W.Write.contents l.fn.writer l.writer (flat_map further_class (take l.letter-index l.classes))
