use Rattle.std.proofs.Common.{take}
use Rattle.std.specs.List.{flat_map}
use Rattle.tape_core.specs.Devices.{Gave}
use Rattle.xterm_picture.specs.Texts.{letter_text}
use Rattle.xterm_picture.proofs.texts.put_letters_of.Given as goal

-- the cells so far have gone out
abbrev pub invariant-loop-cell : goal.invariant-loop-cell
invariant-loop-cell g l = Gave g.W.Write.contents l.fn.writer l.writer (flat_map letter_text (take l.cell-index l.cells))
