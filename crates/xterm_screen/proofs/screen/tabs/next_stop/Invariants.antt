use Rattle.std.proofs.Common.{◌≡◌, ◌-◌}
use Rattle.xterm_screen.specs.Tabs.{stop_after}
use Rattle.xterm_screen.proofs.screen.tabs.next_stop.Given as goal

-- no stop yet
abbrev pub invariant-loop-stop : goal.invariant-loop-stop
invariant-loop-stop l = stop_after l.tabs l.columns (l.stop - 1) ≡ stop_after l.tabs l.columns l.column
