use Rattle.std.proofs.Common.{◌+◌}
use Rattle.screen_print.specs.ByLine.{AreKept}
use Rattle.screen_print.proofs.lost.first_lost.Given as goal

-- the places in the columns so far are kept
abbrev pub invariant-loop-at : goal.invariant-loop-at
invariant-loop-at l = AreKept l.sought.text.now l.pair.one.now l.line l.pair.other.now l.there (l.at + 1)
