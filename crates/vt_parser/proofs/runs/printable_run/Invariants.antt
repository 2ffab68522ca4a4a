use Rattle.std.proofs.Common.{◌≡◌, ◌+◌, ◌-◌, ◌≤◌, length, drop}
use Rattle.std.specs.List.{prefix_len}
use Rattle.vt_parser.specs.Syntax.{is_graphic}
use Rattle.vt_parser.proofs.runs.printable_run.Given as goal

-- the rest of the run begins at `end`
abbrev pub invariant-loop-end : goal.invariant-loop-end
invariant-loop-end l =
    (prefix_len is_graphic l.bytes ≡ l.end + prefix_len is_graphic (drop l.end l.bytes)) × (l.end ≤ length l.bytes)

abbrev pub decreases-loop-end : goal.decreases-loop-end
decreases-loop-end l = length l.bytes - l.end
