use Rattle.std.proofs.Common.{◌≡◌, ℕ, ◌+◌, ◌-◌, ◌<◌, ◌%◌, length, get_or, false}
use Rattle.std.specs.Prelude.{nat_lt, ◌==◌, ◌&&◌}
use Rattle.xterm_screen.proofs.screen.put_first_tabs.Given as goal

-- the columns so far
abbrev pub invariant-loop-column : goal.invariant-loop-column
invariant-loop-column l = record {
  all : length l.tabs ≡ length l.fn.tabs;
  stops : (k : ℕ) → k < l.column - 1 → get_or l.tabs k false ≡ (nat_lt 1 (k + 1) && ((k + 1) % 8 == 1));
}
