use Rattle.std.proofs.Common.{◌≡◌, ◌+◌, ◌-◌, ◌<◌, ◌≤◌, ℕ, length}
use Rattle.std.specs.Prelude.{slice_index_or}
use Rattle.xterm_print.proofs.runs.are_neighbours.Given as goal

-- those so far aren't
abbrev pub invariant-loop-at : goal.invariant-loop-at
invariant-loop-at l = record {
  high : l.at ≤ length l.text;
  apart : (k : ℕ) → k < l.at → slice_index_or l.text k 0 ≡ l.one → slice_index_or l.text (k + 1) 0 ≡ l.other → ⊥;
}

abbrev pub decreases-loop-at : goal.decreases-loop-at
decreases-loop-at l = length l.text - l.at
