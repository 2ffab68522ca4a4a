use Rattle.std.proofs.Common.{◌≡◌, ◌-◌, ◌≤◌, length, take, true}
use Rattle.std.specs.Prelude.{Some}
use Rattle.xterm_term.specs.Ahead.{Letters, letters_from, styling_behind}
use Rattle.xterm_print.specs.Pieces.{AreFollowers, GoOver}
use Rattle.xterm_print.proofs.runs.run_on.Given as goal

-- those taken lead from letters to letters, their characters may be put, and the marks are those of the text once they are made
abbrev pub invariant-loop-taken : goal.invariant-loop-taken
invariant-loop-taken l = record {
  high : l.taken ≤ length l.bytes;
  styled : styling_behind l.set Letters (take l.taken l.bytes) ≡ Some Letters;
  are : l.letters.items ≡ letters_from l.set Letters (take l.taken l.bytes);
  over : GoOver l.text l.cells l.letters.items;
  made : l.followers.made ≡ true → AreFollowers l.text l.followers.marks l.followers.pairs;
}

abbrev pub decreases-loop-taken : goal.decreases-loop-taken
decreases-loop-taken l = length l.bytes - l.taken
