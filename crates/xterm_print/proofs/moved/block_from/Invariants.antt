use Rattle.std.proofs.Common.{◌≡◌, length, take}
use Rattle.std.specs.List.{range_with_len}
use Rattle.xterm_print.proofs.moved.block_from.Given as goal

-- the numbers so far are there
abbrev pub invariant-loop-i : goal.invariant-loop-i
invariant-loop-i l = record {
  count : length l.lines ≡ 16;
  filled : take l.i l.lines ≡ range_with_len l.fn.from l.i;
}
