use Rattle.std.proofs.Common.{◌≡◌, ◌++◌, drop, map, take}
use Rattle.tape_core.specs.Edited.{capped_chunk}
use Rattle.tape_core.proofs.recording.editing.cap_delays.Given as goal

-- the chunks so far are capped
abbrev pub invariant-loop-chunk : goal.invariant-loop-chunk
invariant-loop-chunk l = l.chunks ≡ map (capped_chunk l.max) (take l.chunk-index l.fn.chunks) ++ drop l.chunk-index l.fn.chunks
