use Rattle.std.proofs.Common.{◌≡◌, ◌+◌, ◌<◌, ℕ, false, get_or}
use Rattle.screen_print.specs.Skim.{is_pair}
use Rattle.screen_print.proofs.free.pair_at.Given as goal

-- the bytes show it nowhere so far
abbrev pub invariant-loop-at : goal.invariant-loop-at
invariant-loop-at l = (k : ℕ) → k + 1 < l.at → is_pair l.ending (get_or l.bytes k 0) (get_or l.bytes (k + 1) 0) ≡ false
