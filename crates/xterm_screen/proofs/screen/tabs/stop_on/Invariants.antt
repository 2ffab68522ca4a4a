use Rattle.std.proofs.Common.{◌≡◌, ◌≤◌, length}
use Rattle.xterm_screen.specs.Tabs.{stop_after, times}
use Rattle.xterm_screen.proofs.screen.tabs.stop_on.Given as goal

-- so many times already
abbrev pub invariant-loop-step : goal.invariant-loop-step
invariant-loop-step l = record {
  walked : l.stop ≡ times l.step (stop_after l.tabs (length l.tabs)) l.column;
  low : 1 ≤ l.stop;
  high : l.stop ≤ length l.tabs;
}
