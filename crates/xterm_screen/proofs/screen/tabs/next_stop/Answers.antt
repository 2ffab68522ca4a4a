use Rattle.std.proofs.Common.{ℕ, arith, length, ap}
use Rattle.xterm_screen.specs.Tabs.{stop_after}
use Rattle.xterm_screen.proofs.Stops.{stop_here, stop_not_here, stop_nowhere}
use Rattle.xterm_screen.proofs.screen.tabs.next_stop.Goals as goal

pub loop-stop-init : goal.loop-stop-init
loop-stop-init c = ap (λ (k : ℕ). stop_after c.args.tabs.now (length c.args.tabs.now) k) (omega arith)

pub loop-stop-preserved : goal.loop-stop-preserved
loop-stop-preserved c =
    stop_not_here c.args.tabs.now (length c.args.tabs.now) c.args.column c.loop-stop.stop (omega arith) (omega arith) c.loop-stop.invariant c.if-tabs-stop.false

pub returns-then-tabs-stop-clause-value : goal.returns-then-tabs-stop-clause-value
returns-then-tabs-stop-clause-value c =
    stop_here c.args.tabs.now (length c.args.tabs.now) c.args.column c.loop-stop.stop (omega arith) (omega arith) c.loop-stop.invariant c.if-tabs-stop.true

pub returns-clause-value : goal.returns-clause-value
returns-clause-value c = stop_nowhere c.args.tabs.now (length c.args.tabs.now) c.args.column c.loop-stop.stop (omega arith) c.loop-stop.invariant
