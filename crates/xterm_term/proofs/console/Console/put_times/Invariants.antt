use Rattle.std.proofs.Common.{◌≡◌}
use Rattle.xterm_screen.specs.Picture.{KeepsTold}
use Rattle.xterm_term.specs.Console.{console_of}
use Rattle.xterm_term.specs.Puts.{put_times}
use Rattle.xterm_term.proofs.console.Console.put_times.Given as goal

abbrev pub invariant-loop-step : goal.invariant-loop-step
invariant-loop-step l = record {
  put : console_of l.self ≡ put_times l.step l.character (console_of l.initial.self);
  told : KeepsTold l.initial.self.screen l.self.screen;
}
