use Rattle.std.proofs.Common.{take, ◌++◌}
use Rattle.std.specs.List.{flat_map}
use Rattle.tape_core.specs.Devices.{Gave}
use Rattle.xterm_picture.specs.Texts.{character_text}
use Rattle.xterm_picture.proofs.texts.put_letter.Given as goal

-- the character and the marks so far have gone out
abbrev pub invariant-loop-n : goal.invariant-loop-n
invariant-loop-n g l = Gave g.W.Write.contents l.fn.writer l.writer
    (character_text l.fn.cell.character ++ flat_map character_text (take l.n l.fn.cell.marks))
