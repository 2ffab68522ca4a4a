use Rattle.std.proofs.Common.{◌≡◌, ◌+◌, ◌<◌, ◌≤◌, ℕ}
use Rattle.std.specs.Prelude.{slice_index_or}
use Rattle.xterm_print.proofs.runs.are_behind.Given as goal

-- those so far aren't
abbrev pub invariant-loop-at : goal.invariant-loop-at
invariant-loop-at l = (k : ℕ) → l.from ≤ k → k + 1 < l.at → slice_index_or l.text k 0 ≡ l.one → slice_index_or l.text (k + 1) 0 ≡ l.other → ⊥
