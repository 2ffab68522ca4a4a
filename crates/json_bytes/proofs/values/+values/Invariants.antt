use Rattle.std.proofs.Common.{◌≡◌, ◌+◌, ◌-◌, ◌*◌}
use Rattle.json_bytes.specs.Values.{behind, items, members, value}
use Rattle.json_bytes.proofs.values.+values.Given as goal

abbrev pub decreases-array_end : goal.decreases-array_end
decreases-array_end l = 3 * l.depth + 1

abbrev pub decreases-object_end : goal.decreases-object_end
decreases-object_end l = 3 * l.depth + 1

abbrev pub decreases-value_end : goal.decreases-value_end
decreases-value_end l = 3 * l.depth

abbrev pub decreases-nested_end : goal.decreases-nested_end
decreases-nested_end l = 3 * l.depth + 2

-- what is left of the array ends where the array does
abbrev pub invariant-array_end-loop : goal.invariant-array_end-loop
invariant-array_end-loop l =
    behind (items (value l.depth) l.end l.initial.at) ≡ behind (items (value l.depth) (l.end - l.counter) l.at)

-- and so for an object
abbrev pub invariant-object_end-loop : goal.invariant-object_end-loop
invariant-object_end-loop l =
    behind (members (value l.depth) l.end l.initial.at) ≡ behind (members (value l.depth) (l.end - l.counter) l.at)
