use Rattle.std.proofs.Common.{◌≡◌, ◌≤◌, ◌<◌, ◌*◌, ℕ, get_or, take}
use Rattle.std.specs.List.{sum_by}
use Rattle.tape_core.specs.Due.{due_time}
use Rattle.tape_core.proofs.recording.editing.add_up.Given as goal

-- the sum of the delays so far, and the due times before this place
abbrev pub invariant-loop-i : goal.invariant-loop-i
invariant-loop-i l = record {
  sum : l.due ≡ sum_by (λ c. c.delay) (take l.i l.chunks);
  small : l.due ≤ 1000000000000 * l.i;
  before : (k : ℕ) → k < l.i → get_or l.dues k 0 ≡ due_time l.chunks k;
}
