use Rattle.std.proofs.Common.{◌≡◌, ℕ, ◌<◌, ◌≤◌, slice_index_or, true}
use Rattle.vt_screen.specs.Cells.{blank}
use Rattle.screen_rows.specs.Runs.{IsLetter}
use Rattle.screen_rows.proofs.runs.are_letters.Given as goal

-- the cells so far are such letters
abbrev pub invariant-loop-at : goal.invariant-loop-at
invariant-loop-at l = l.letters ≡ true → (k : ℕ) → l.from ≤ k → k < l.at → IsLetter l.fn.rendition (slice_index_or l.cells k blank)
