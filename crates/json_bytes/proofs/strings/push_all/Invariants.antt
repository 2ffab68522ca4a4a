use Rattle.std.proofs.Common.{◌≡◌, ◌++◌, take}
use Rattle.json_bytes.specs.Shown.{added}
use Rattle.json_bytes.proofs.strings.push_all.Given as goal

-- so many of the bytes were added
abbrev pub invariant-loop-byte : goal.invariant-loop-byte
invariant-loop-byte l = added l.pieces ≡ added l.initial.pieces ++ take l.byte-index l.bytes
