use Rattle.std.proofs.Common.{take}
use Rattle.tape_core.specs.Devices.{Gave}
use Rattle.tape_core.specs.Tape.{body}
use Rattle.tape_core.proofs.writing.give_chunks.Given as goal

-- the writer was given the bytes of the chunks so far
abbrev pub invariant-loop-chunk : goal.invariant-loop-chunk
invariant-loop-chunk g l = Gave g.W.Write.contents l.fn.writer l.writer (body (take l.chunk-index l.chunks))
