use Rattle.std.proofs.Common.{◌≡◌, ◌≤◌, take}
use Rattle.std.specs.Prelude.{count_by, nat_le}
use Rattle.tape_core.specs.Tape.{body, body_len}
use Rattle.tape_check.proofs.notes.high_bytes.Given as goal

-- the bytes of the chunks so far
abbrev pub invariant-loop-chunk : goal.invariant-loop-chunk
invariant-loop-chunk l = record {
  counted : l.high ≡ count_by (λ byte. nat_le 128 byte) (body (take l.chunk-index l.chunks));
  within : l.high ≤ body_len (take l.chunk-index l.chunks);
}
