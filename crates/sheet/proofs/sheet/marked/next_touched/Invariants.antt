use Rattle.std.proofs.Common.{◌≡◌, ◌-◌, ◌<◌, ◌≤◌, ℕ, false, length, true}
use Rattle.std.specs.Prelude.{slice_index_or}
use Rattle.sheet.specs.Marked.{marks_of}
use Rattle.sheet.proofs.sheet.marked.next_touched.Given as goal

-- none of those that were passed was touched
abbrev pub invariant-loop-at : goal.invariant-loop-at
invariant-loop-at l = record {
  low : l.from ≤ l.at;
  high : l.at ≤ length l.origins;
  between : (k : ℕ) → l.from ≤ k → k < l.at → slice_index_or (marks_of l.origins) k true ≡ false;
}

abbrev pub decreases-loop-at : goal.decreases-loop-at
decreases-loop-at l = length l.origins - l.at
