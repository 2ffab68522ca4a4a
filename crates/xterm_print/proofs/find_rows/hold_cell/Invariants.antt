use Rattle.std.proofs.Common.{◌≡◌, ◌+◌, ◌∷◌, ◌++◌, length, map, take}
use Rattle.xterm_print.proofs.find_rows.hold_cell.Given as goal

-- the character and the marks so far are held
abbrev pub invariant-loop-n : goal.invariant-loop-n
invariant-loop-n l = record {
  letters : l.letters.items ≡ l.fn.letters.items ++ l.fn.cell.character ∷ take l.n l.fn.cell.marks;
  columns : l.columns.items ≡ l.fn.columns.items ++ map (λ _. l.fn.column) (l.fn.cell.character ∷ take l.n l.fn.cell.marks);
  letter_count : length l.letters.items ≡ length l.fn.letters.items + 1 + l.n;
  column_count : length l.columns.items ≡ length l.fn.columns.items + 1 + l.n;
}
