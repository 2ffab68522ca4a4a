use Rattle.std.proofs.Common.{get_or, sym, subst, arith}
use Rattle.std.proofs.lemmas.Grind.{common_steps}
use Rattle.xterm_term.specs.Console.{IsSafe, console_of}
use Rattle.xterm_term.proofs.console.Console.set_modes.Goals as goal

pub loop-param-preserved : goal.loop-param-preserved
loop-param-preserved c = record {
  safe = subst IsSafe (sym c.set_mode.ensures.done) (c.commands_keep_safe.ensures.modes c.args.value (console_of c.loop-param.self) (get_or c.args.params.now c.loop-param.param-index 0) c.loop-param.invariant.safe);
  set = grind (arith, common_steps);
  told = λ before was. c.set_mode.ensures.told before (c.loop-param.invariant.told before was);
}
