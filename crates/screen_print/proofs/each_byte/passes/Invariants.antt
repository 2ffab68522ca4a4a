use Rattle.std.proofs.Common.{◌-◌, ◌≤◌, IfSome, length, take}
use Rattle.vt_term.specs.Seen.{Shows}
use Rattle.vt_term.specs.Term.{Term, play}
use Rattle.screen_print.specs.Skim.{IsLacked, NowhereUpTo}
use Rattle.screen_print.proofs.each_byte.passes.Given as goal

-- the bytes so far were played, and where there is a key the screen lacks it and the text stood nowhere
abbrev pub invariant-loop-done : goal.invariant-loop-done
invariant-loop-done l = record {
  within : l.done ≤ length l.bytes;
  known : IfSome l.current (λ key. IsLacked l.text key.now l.terminal.console.picture);
  nowhere : IfSome l.current (λ _. (x : Term) → Shows l.fn.terminal x → NowhereUpTo l.text x l.bytes l.done);
  shows : (x : Term) → Shows l.fn.terminal x → Shows l.terminal (play x (take l.done l.bytes));
  scratch : 20 ≤ length l.scratch.bytes;
}

abbrev pub decreases-loop-done : goal.decreases-loop-done
decreases-loop-done l = length l.bytes - l.done
