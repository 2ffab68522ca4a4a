use Rattle.std.proofs.Common.{arith, sym, ap, ◌∙◌}
use Rattle.xterm_screen.specs.Tabs.{stop_before}
use Rattle.xterm_screen.proofs.Stops.{before_none, rested, times_more, times_none}
use Rattle.xterm_screen.proofs.screen.tabs.stop_back.Goals as goal

pub loop-step-init : goal.loop-step-init
loop-step-init c = record { walked = sym (times_none (stop_before c.args.tabs.now) c.args.column); low = omega arith; high = omega arith }

pub loop-step-preserved : goal.loop-step-preserved
loop-step-preserved c =
    let next = stop_before c.args.tabs.now in
    record {
      walked = c.previous_stop-stop.ensures.value ∙ ap next c.loop-step.invariant.walked ∙ sym (times_more c.loop-step.step next c.args.column);
      low = c.previous_stop-stop.ensures.low;
      high = omega (arith, c.previous_stop-stop.ensures.high, c.loop-step.invariant.high);
    }

pub returns-then-stop-eq1-clause-value : goal.returns-then-stop-eq1-clause-value
returns-then-stop-eq1-clause-value c =
    let next = stop_before c.args.tabs.now in
    rested c.args.n c.loop-step.step next c.args.column c.loop-step.stop (omega arith) c.loop-step.invariant.walked
    (ap next c.if-stop-eq1.true ∙ before_none c.args.tabs.now ∙ sym c.if-stop-eq1.true)
