use Rattle.std.proofs.Common.{◌≡◌, ℕ, ◌-◌, ◌<◌, length, get_or, false}
use Rattle.xterm_screen.proofs.screen.tabs.put_no_tabs.Given as goal

-- the columns so far
abbrev pub invariant-loop-column : goal.invariant-loop-column
invariant-loop-column l = record {
  all : length l.tabs ≡ length l.fn.tabs;
  stops : (k : ℕ) → k < l.column - 1 → get_or l.tabs k false ≡ false;
}
