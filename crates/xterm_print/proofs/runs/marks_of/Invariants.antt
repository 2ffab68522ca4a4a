use Rattle.std.proofs.Common.{◌≡◌, ◌+◌, ◌*◌, ◌%◌, ◌<◌, ℕ}
use Rattle.std.specs.Int.{bit_at}
use Rattle.std.specs.Prelude.{slice_index_or}
use Rattle.xterm_print.proofs.runs.marks_of.Given as goal

-- those so far are marked
abbrev pub invariant-loop-at : goal.invariant-loop-at
invariant-loop-at l = (k : ℕ) → k + 1 < l.at
    → (bit_at l.marks (slice_index_or l.text (k + 1) 0 % 64) ≡ 1) × (bit_at l.pairs ((slice_index_or l.text k 0 + 2 * slice_index_or l.text (k + 1) 0) % 64) ≡ 1)
