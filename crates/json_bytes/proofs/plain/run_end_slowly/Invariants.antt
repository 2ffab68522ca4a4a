use Rattle.std.proofs.Common.{◌≡◌, ◌+◌, ◌-◌, ◌≤◌, length, drop}
use Rattle.std.specs.List.{prefix_len}
use Rattle.json_bytes.specs.Strings.{is_plain}
use Rattle.json_bytes.proofs.plain.run_end_slowly.Given as goal

-- the rest of the run begins at `end`
abbrev pub invariant-loop-end : goal.invariant-loop-end
invariant-loop-end l =
    (l.from + prefix_len is_plain (drop l.from l.bytes) ≡ l.end + prefix_len is_plain (drop l.end l.bytes)) × (l.end ≤ length l.bytes)

abbrev pub decreases-loop-end : goal.decreases-loop-end
decreases-loop-end l = length l.bytes - l.end
