use Rattle.std.proofs.Common.{◌≡◌, length}
use Rattle.std.specs.Prelude.{fold}
use Rattle.job_files.specs.Beginning.{after_byte}
use Rattle.job_files.proofs.beginning.Beginning.after.Given as goal

-- what the bytes that are left make of it is what all of them make of the first one
abbrev pub invariant-loop-rest : goal.invariant-loop-rest
invariant-loop-rest l = fold after_byte l.beginning l.rest ≡ fold after_byte l.fn.self l.bytes

abbrev pub decreases-loop-rest : goal.decreases-loop-rest
decreases-loop-rest l = length l.rest
