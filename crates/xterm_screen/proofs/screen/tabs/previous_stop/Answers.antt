use Rattle.std.proofs.Common.{arith}
use Rattle.xterm_screen.proofs.Stops.{left_first, left_here, left_not_here, left_nowhere}
use Rattle.xterm_screen.proofs.screen.tabs.previous_stop.Goals as goal

pub loop-steps-init : goal.loop-steps-init
loop-steps-init c = left_first c.args.tabs.now c.args.column

pub loop-steps-preserved : goal.loop-steps-preserved
loop-steps-preserved c =
    left_not_here c.args.tabs.now c.args.column c.loop-steps.steps (omega arith) (omega arith) c.loop-steps.invariant c.if-tabs-column.false

pub returns-then-tabs-column-clause-value : goal.returns-then-tabs-column-clause-value
returns-then-tabs-column-clause-value c =
    left_here c.args.tabs.now c.args.column c.loop-steps.steps (omega arith) (omega arith) c.loop-steps.invariant c.if-tabs-column.true

pub returns-clause-value : goal.returns-clause-value
returns-clause-value c = left_nowhere c.args.tabs.now c.args.column c.loop-steps.steps (omega arith) c.loop-steps.invariant
