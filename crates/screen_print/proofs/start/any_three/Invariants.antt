use Rattle.std.proofs.Common.{◌≡◌, ◌<◌, ℕ, false, get_or}
use Rattle.vt_screen.specs.Cells.{blank}
use Rattle.screen_print.specs.Start.{three_fit}
use Rattle.screen_print.proofs.start.any_three.Given as goal

-- they have it nowhere so far, where no place was found
abbrev pub invariant-loop-at : goal.invariant-loop-at
invariant-loop-at g l =
    l.any ≡ false → (k : ℕ) → k < l.at → three_fit l.start (get_or l.one k blank) (get_or l.two k blank) (get_or l.three k blank) ≡ false
