use Rattle.std.proofs.Common.{◌≡◌, ◌+◌, ◌<◌, ◌≤◌, ℕ, false}
use Rattle.std.specs.Prelude.{slice_index_or}
use Rattle.xterm_print.proofs.runs.are_together.Given as goal

-- those so far aren't, if none was found
abbrev pub invariant-loop-at : goal.invariant-loop-at
invariant-loop-at l = l.found ≡ false → (k : ℕ) → l.from ≤ k → k < l.at → slice_index_or l.text k 0 ≡ l.one → slice_index_or l.text (k + 1) 0 ≡ l.other → ⊥
