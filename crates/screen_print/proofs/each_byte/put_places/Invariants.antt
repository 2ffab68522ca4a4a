use Rattle.std.proofs.Common.{take}
use Rattle.std.specs.List.{flat_map}
use Rattle.tape_core.specs.Devices.{Gave}
use Rattle.screen_print.specs.FindLines.{found_line}
use Rattle.screen_print.proofs.each_byte.put_places.Given as goal

-- the lines of the places so far have gone out
abbrev pub invariant-loop-place : goal.invariant-loop-place
invariant-loop-place g l =
    Gave g.W.Write.contents l.fn.writer l.writer (flat_map (found_line 61 l.chunk.index l.chunk.due l.chunk.len l.still) (take l.place-index l.places))
