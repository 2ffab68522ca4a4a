use Rattle.std.proofs.Common.{◌≡◌, ◌-◌}
use Rattle.vt_screen.specs.Tabs.{stop_after}
use Rattle.vt_screen.proofs.screen.next_stop.Given as goal

-- no stop yet
abbrev pub invariant-loop-stop : goal.invariant-loop-stop
invariant-loop-stop l = stop_after l.tabs (l.stop - 1) l.margin ≡ stop_after l.tabs l.column l.margin
