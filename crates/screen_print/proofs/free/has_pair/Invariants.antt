use Rattle.std.proofs.Common.{◌≡◌, ◌<◌, ℕ, false, get_or}
use Rattle.screen_print.specs.Skim.{is_pair}
use Rattle.screen_print.proofs.free.has_pair.Given as goal

-- the bytes show it nowhere so far, where no place was found
abbrev pub invariant-loop-at : goal.invariant-loop-at
invariant-loop-at l = l.any ≡ false → (k : ℕ) → k < l.at → is_pair l.ending (get_or l.one k 0) (get_or l.two k 0) ≡ false
