use Rattle.std.proofs.Common.{◌≡◌}
use Rattle.xterm_screen.specs.Tabs.{stop_before}
use Rattle.xterm_screen.proofs.Stops.{stops_left}
use Rattle.xterm_screen.proofs.screen.tabs.previous_stop.Given as goal

-- no stop yet
abbrev pub invariant-loop-steps : goal.invariant-loop-steps
invariant-loop-steps l = stops_left l.tabs l.column l.steps ≡ stop_before l.tabs l.column
