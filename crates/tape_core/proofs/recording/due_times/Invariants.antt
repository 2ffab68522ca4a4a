use Rattle.std.proofs.Common.{◌≡◌, ◌≤◌, ◌*◌, take}
use Rattle.std.specs.List.{sum_by}
use Rattle.tape_core.specs.Kept.{AreDueTimes}
use Rattle.tape_core.proofs.recording.due_times.Given as goal

-- the due times of the chunks so far, and the sum of their delays
abbrev pub invariant-loop-chunk : goal.invariant-loop-chunk
invariant-loop-chunk l = record {
  sum : l.due ≡ sum_by (λ c. c.delay) (take l.chunk-index l.chunks);
  small : l.due ≤ 1000000000000 * l.chunk-index;
  dues : AreDueTimes (take l.chunk-index l.chunks) l.dues.items;
}
