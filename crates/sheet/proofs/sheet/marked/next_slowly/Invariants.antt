use Rattle.std.proofs.Common.{◌≡◌, ◌<◌, ◌≤◌, ℕ, false, true}
use Rattle.std.specs.Prelude.{slice_index_or}
use Rattle.sheet.specs.Marked.{marks_of}
use Rattle.sheet.proofs.sheet.marked.next_slowly.Given as goal

-- none so far was touched
abbrev pub invariant-loop-at : goal.invariant-loop-at
invariant-loop-at l = (k : ℕ) → l.from ≤ k → k < l.at → slice_index_or (marks_of l.origins) k true ≡ false
