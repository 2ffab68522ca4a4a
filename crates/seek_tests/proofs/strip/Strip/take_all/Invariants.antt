use Rattle.seek_tests.proofs.Parts.{Taken}
use Rattle.seek_tests.proofs.strip.Strip.take_all.Given as goal

-- The first bytes were taken, and answered.
abbrev pub invariant-loop-byte : goal.invariant-loop-byte
invariant-loop-byte l = Taken l.initial.self l.self l.initial.sink l.sink l.bytes l.byte-index
