use Rattle.std.proofs.Common.{◌≡◌, ◌≤◌, ◌-◌, length, take}
use Rattle.xterm_screen.specs.Picture.{KeepsTold}
use Rattle.xterm_term.specs.Console.{Console, console_of}
use Rattle.xterm_term.specs.Puts.{put}
use Rattle.xterm_term.specs.Spelled.{PutsSpelled}
use Rattle.xterm_term.proofs.console.Console.put_several.Given as goal

-- the characters so far come of those that were put, and then the last one
abbrev pub invariant-loop-next : goal.invariant-loop-next
invariant-loop-next l = record {
  within : l.taken ≤ length l.rest;
  puts : (t : Console) → t ≡ put l.character (console_of l.self) → PutsSpelled (take l.taken l.rest) (put l.fn.first (console_of l.initial.self)) t;
  told : KeepsTold l.initial.self.screen l.self.screen;
}

abbrev pub decreases-loop-next : goal.decreases-loop-next
decreases-loop-next l = length l.rest - l.taken
