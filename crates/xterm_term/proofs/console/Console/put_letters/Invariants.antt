use Rattle.std.proofs.Common.{◌≡◌, ℕ, length, take, drop}
use Rattle.xterm_screen.specs.Picture.{KeepsTold}
use Rattle.xterm_term.specs.Console.{console_of}
use Rattle.xterm_term.specs.Puts.{all_put}
use Rattle.xterm_term.proofs.console.Console.put_letters.Given as goal

-- the characters so far were put, and the rest of them is left
abbrev pub invariant-loop-rest : goal.invariant-loop-rest
invariant-loop-rest l = record {
  at : ℕ;
  left : l.rest ≡ drop at l.letters;
  put : console_of l.self ≡ all_put (take at l.letters) (console_of l.initial.self);
  told : KeepsTold l.initial.self.screen l.self.screen;
}

abbrev pub decreases-loop-rest : goal.decreases-loop-rest
decreases-loop-rest l = length l.rest
