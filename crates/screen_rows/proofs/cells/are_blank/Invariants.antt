use Rattle.std.proofs.Common.{◌≡◌, ℕ, ◌<◌, ◌≤◌, slice_index_or, true}
use Rattle.vt_screen.specs.Cells.{blank}
use Rattle.screen_rows.specs.Ink.{is_blank}
use Rattle.screen_rows.proofs.cells.are_blank.Given as goal

-- the cells so far are blank
abbrev pub invariant-loop-at : goal.invariant-loop-at
invariant-loop-at l = l.blank ≡ true → (k : ℕ) → l.from ≤ k → k < l.at → is_blank (slice_index_or l.cells k blank) ≡ true
