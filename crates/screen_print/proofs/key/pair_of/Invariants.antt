use Rattle.std.proofs.Common.{◌+◌, ◌<◌, length}
use Rattle.screen_print.proofs.key.pair_of.Given as goal

-- a character stands behind the one that was chosen
abbrev pub invariant-loop-at : goal.invariant-loop-at
invariant-loop-at l = l.best + 1 < length l.text
