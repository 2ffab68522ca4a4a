use Rattle.std.proofs.Common.{◌≡◌, take}
use Rattle.std.specs.Prelude.{fold}
use Rattle.tape_check.specs.Tallying.{marks_after}
use Rattle.tape_check.proofs.quiet.Marks.behind.Given as goal

-- the bytes so far are marked
abbrev pub invariant-loop-byte : goal.invariant-loop-byte
invariant-loop-byte l = l.marks ≡ fold marks_after l.initial.marks (take l.byte-index l.bytes)
