use Rattle.std.proofs.Common.{◌≡◌, ◌+◌, ◌≤◌, length, take}
use Rattle.std.specs.List.{suffix_len}
use Rattle.xterm_rows.specs.Ink.{is_blank}
use Rattle.xterm_rows.proofs.cells.inked.Given as goal

-- only blank cells were passed
abbrev pub invariant-loop-len : goal.invariant-loop-len
invariant-loop-len l = record {
  within : l.len ≤ length l.cells;
  passed : l.len + suffix_len is_blank l.cells ≡ length l.cells + suffix_len is_blank (take l.len l.cells);
}

abbrev pub decreases-loop-len : goal.decreases-loop-len
decreases-loop-len l = l.len
