use Rattle.std.proofs.Common.{◌≡◌, take}
use Rattle.tape_core.specs.Tape.{body_len}
use Rattle.tape_core.proofs.recording.chunk_bytes.Given as goal

-- the bytes of the chunks so far
abbrev pub invariant-loop-chunk : goal.invariant-loop-chunk
invariant-loop-chunk l = l.bytes ≡ body_len (take l.chunk-index l.chunks)
