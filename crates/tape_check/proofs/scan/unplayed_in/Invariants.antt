use Rattle.std.proofs.Common.{take}
use Rattle.tape_core.specs.Tape.{body}
use Rattle.tape_check.specs.Scan.{scan_start}
use Rattle.tape_check.specs.Counting.{Scanned}
use Rattle.tape_check.proofs.scan.unplayed_in.Given as goal

-- the chunks so far were scanned
abbrev pub invariant-loop-chunk : goal.invariant-loop-chunk
invariant-loop-chunk l = Scanned l.initial.scanner l.scanner scan_start (body (take l.chunk-index l.chunks))
