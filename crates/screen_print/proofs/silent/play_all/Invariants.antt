use Rattle.std.proofs.Common.{◌-◌, ◌≤◌, length, take}
use Rattle.vt_term.specs.Seen.{Shows}
use Rattle.vt_term.specs.Term.{Term, play}
use Rattle.screen_print.proofs.silent.play_all.Given as goal

-- the bytes so far were played
abbrev pub invariant-loop-at : goal.invariant-loop-at
invariant-loop-at l = record {
  within : l.at ≤ length l.bytes;
  shows : (x : Term) → Shows l.fn.terminal x → Shows l.terminal (play x (take l.at l.bytes));
  scratch : 20 ≤ length l.scratch.bytes;
}

abbrev pub decreases-loop-at : goal.decreases-loop-at
decreases-loop-at l = length l.bytes - l.at
