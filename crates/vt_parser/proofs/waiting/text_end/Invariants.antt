use Rattle.std.proofs.Common.{◌≡◌, ◌+◌, ◌-◌, ◌≤◌, length, drop}
use Rattle.std.specs.List.{prefix_len}
use Rattle.vt_parser.specs.Forms.{is_control_sequence_text}
use Rattle.vt_parser.proofs.waiting.text_end.Given as goal

-- the rest of it begins at `end`
abbrev pub invariant-loop-end : goal.invariant-loop-end
invariant-loop-end l =
    (l.from + prefix_len is_control_sequence_text (drop l.from l.bytes) ≡ l.end + prefix_len is_control_sequence_text (drop l.end l.bytes)) × (l.end ≤ length l.bytes)

abbrev pub decreases-loop-end : goal.decreases-loop-end
decreases-loop-end l = length l.bytes - l.end
