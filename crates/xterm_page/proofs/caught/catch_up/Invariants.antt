use Rattle.std.proofs.Common.{◌≡◌, ℕ, ◌≤◌, length}
use Rattle.std.specs.List.{flat_map}
use Rattle.xterm_page.specs.Parts.{AreWide, renewed, told}
use Rattle.xterm_page.proofs.CaughtLemmas.{Caught, so_far}
use Rattle.xterm_page.proofs.caught.catch_up.Given as goal

-- those so far are the sheet's, and the others are as they were
abbrev pub invariant-loop-at : goal.invariant-loop-at
invariant-loop-at l = record {
  whole : length l.rows ≡ l.fn.screen.picture.lines;
  told : AreWide l.fn.screen.picture.lines l.fn.screen.picture.columns l.fn.rows
      → flat_map told l.changed ≡ renewed l.fn.screen.origins l.fn.screen.picture.lines l.fn.rows l.fn.screen.picture.rows → (k : ℕ) → 1 ≤ k
      → k ≤ l.fn.screen.picture.lines
      → Caught (so_far l.changed l.at k) l.fn.screen.picture.columns l.fn.rows l.fn.screen.picture.rows l.rows k;
}
