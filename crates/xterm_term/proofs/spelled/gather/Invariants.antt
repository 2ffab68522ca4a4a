use Rattle.std.proofs.Common.{◌≡◌, ◌≤◌, ◌-◌, ◌++◌, ℕ, List, length, take, true}
use Rattle.std.specs.List.{list_all}
use Rattle.xterm_term.specs.Ahead.{is_narrow}
use Rattle.xterm_term.specs.Reading.{SpellsEach}
use Rattle.xterm_term.proofs.spelled.gather.Given as goal

-- the letters are those of before, and then those that the bytes so far are
abbrev pub invariant-loop-next : goal.invariant-loop-next
invariant-loop-next l = record {
  within : l.taken ≤ length l.bytes;
  narrow : list_all is_narrow l.letters.items ≡ true;
  gathered : (more : List ℕ) × SpellsEach (take l.taken l.bytes) more × (l.letters.items ≡ l.initial.letters.items ++ more);
}

abbrev pub decreases-loop-next : goal.decreases-loop-next
decreases-loop-next l = length l.bytes - l.taken
