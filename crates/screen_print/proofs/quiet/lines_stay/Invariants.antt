use Rattle.std.proofs.Common.{ℕ, ◌≤◌, drop}
use Rattle.screen_print.specs.Quiet.{PlacesStay}
use Rattle.screen_print.specs.Stills.{still_of}
use Rattle.screen_print.proofs.StillLemmas.{IsIn}
use Rattle.screen_print.proofs.quiet.lines_stay.Given as goal

-- each line stays, or is one that comes
abbrev pub invariant-loop-line : goal.invariant-loop-line
invariant-loop-line l =
    (k : ℕ) → 1 ≤ k → k ≤ 24 → IsIn (drop l.line-index l.lines) k (PlacesStay l.text l.before (still_of l.after.console) k)
