use Rattle.std.proofs.Common.{take}
use Rattle.std.specs.List.{flat_map}
use Rattle.tape_core.specs.Devices.{Gave}
use Rattle.tape_core.specs.Written.{timing_line_of}
use Rattle.tape_core.proofs.writing.write_timing.Given as goal

-- the writer was given the lines of the chunks so far
abbrev pub invariant-loop-chunk : goal.invariant-loop-chunk
invariant-loop-chunk g l = Gave g.W.Write.contents l.fn.writer l.writer (flat_map timing_line_of (take l.chunk-index l.fn.recording.chunks))
