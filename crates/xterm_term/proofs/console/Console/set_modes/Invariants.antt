use Rattle.std.proofs.Common.{◌≡◌, take}
use Rattle.std.specs.Prelude.{fold}
use Rattle.xterm_screen.specs.Picture.{KeepsTold}
use Rattle.xterm_term.specs.Console.{console_of, IsSafe}
use Rattle.xterm_term.specs.PrivateModes.{mode_set}
use Rattle.xterm_term.proofs.console.Console.set_modes.Given as goal

abbrev pub invariant-loop-param : goal.invariant-loop-param
invariant-loop-param l = record {
  safe : IsSafe (console_of l.self);
  set : console_of l.self ≡ fold (mode_set l.value) (console_of l.initial.self) (take l.param-index l.params);
  told : KeepsTold l.initial.self.screen l.self.screen;
}
