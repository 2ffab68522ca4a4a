use Rattle.std.proofs.Common.{◌≡◌, ◌-◌, ◌≤◌}
use Rattle.tape_import.specs.AsciicastOne.{asciicast_one_of, those_inside}
use Rattle.tape_import.specs.ShownOne.{goes, shown}
use Rattle.tape_import.proofs.asciicast_one.read_cast_one.Given as goal

-- what is read of the whole file is what is read of it from here on
abbrev pub invariant-loop : goal.invariant-loop
invariant-loop l = record {
  few : l.read.count ≤ l.counter;
  same : asciicast_one_of l.text ≡ goes (those_inside (l.end - l.counter)) (shown l.read) l.step;
}
