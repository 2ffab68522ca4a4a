use Rattle.std.proofs.Common.{◌≤◌}
use Rattle.screen_print.proofs.key.word_of.Given as goal

-- both parts lie in what was looked at
abbrev pub invariant-loop-at : goal.invariant-loop-at
invariant-loop-at l = record {
  rising : l.from ≤ l.end;
  within : l.end ≤ l.at;
  begun : l.begun ≤ l.at;
}
