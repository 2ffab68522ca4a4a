use Rattle.std.proofs.Common.{◌≡◌, ◌+◌, drop, take}
use Rattle.tape_core.specs.Tape.{body_len}
use Rattle.tape_redact.specs.Recording.{cut}
use Rattle.tape_redact.proofs.recording.cut.Given as goal

-- the chunks so far, and where their bytes end
abbrev pub invariant-loop-chunk : goal.invariant-loop-chunk
invariant-loop-chunk l = record {
  at : l.at ≡ l.start + body_len (take l.chunk-index l.chunks);
  made : l.made.items ≡ cut (take l.chunk-index l.chunks) (drop l.start l.script.value.items);
}
