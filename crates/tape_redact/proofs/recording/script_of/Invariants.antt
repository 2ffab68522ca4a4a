use Rattle.std.proofs.Common.{◌≡◌, ◌++◌, take}
use Rattle.tape_core.specs.Tape.{body}
use Rattle.tape_redact.proofs.recording.script_of.Given as goal

-- the header, and the bytes of the chunks so far
abbrev pub invariant-loop-chunk : goal.invariant-loop-chunk
invariant-loop-chunk l = l.script.items ≡ l.recording.header ++ body (take l.chunk-index l.recording.chunks)
