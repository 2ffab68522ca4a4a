use Rattle.std.proofs.Common.{take}
use Rattle.std.specs.Prelude.{fold}
use Rattle.tape_core.specs.Tape.{body}
use Rattle.tape_check.specs.Tally.{tallied, tally_start}
use Rattle.tape_check.specs.Tallying.{IsAt}
use Rattle.tape_check.proofs.tally.tally.Given as goal

-- the chunks so far were taken
abbrev pub invariant-loop-chunk : goal.invariant-loop-chunk
invariant-loop-chunk l = IsAt l.reader (fold tallied tally_start (body (take l.chunk-index l.chunks)))
