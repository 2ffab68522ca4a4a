use Rattle.std.proofs.Common.{◌≡◌, arith, length, sym, ap, ◌∙◌}
use Rattle.xterm_screen.specs.Tabs.{stop_after}
use Rattle.xterm_screen.proofs.Stops.{rested, stop_none, times_more, times_none}
use Rattle.xterm_screen.proofs.screen.tabs.stop_on.Goals as goal

pub loop-step-init : goal.loop-step-init
loop-step-init c = record { walked = sym (times_none (stop_after c.args.tabs.now (length c.args.tabs.now)) c.args.column); low = omega arith; high = omega arith }

pub loop-step-preserved : goal.loop-step-preserved
loop-step-preserved c =
    let next = stop_after c.args.tabs.now (length c.args.tabs.now) in
    record {
      walked = c.next_stop-stop.ensures.value ∙ ap next c.loop-step.invariant.walked ∙ sym (times_more c.loop-step.step next c.args.column);
      low = omega (arith, c.next_stop-stop.ensures.low, c.loop-step.invariant.low);
      high = c.next_stop-stop.ensures.high;
    }

pub returns-then-stop-tabs-clause-value : goal.returns-then-stop-tabs-clause-value
returns-then-stop-tabs-clause-value c =
    let next = stop_after c.args.tabs.now (length c.args.tabs.now) in
    let last : c.loop-step.stop ≡ length c.args.tabs.now = omega arith in
    rested c.args.n c.loop-step.step next c.args.column c.loop-step.stop (omega arith) c.loop-step.invariant.walked
    (ap next last ∙ stop_none c.args.tabs.now (length c.args.tabs.now) ∙ sym last)
