use Rattle.std.proofs.Common.{◌≡◌, ◌≤◌}
use Rattle.std.specs.List.{fold, range_with_len}
use Rattle.tape_mend.specs.Mended.{later}
use Rattle.tape_mend.proofs.opening.last_session_of.Given as goal

abbrev pub invariant-loop-at : goal.invariant-loop-at
invariant-loop-at l = record {
  within : l.last ≤ l.at;
  places : l.last ≡ fold (later l.script) 0 (range_with_len 0 l.at);
}
