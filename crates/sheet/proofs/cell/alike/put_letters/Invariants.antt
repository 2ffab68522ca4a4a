use Rattle.std.proofs.Common.{◌≡◌, ◌<◌, [], ℕ, length, map, take}
use Rattle.std.specs.Prelude.{slice_index_or}
use Rattle.sheet.specs.declared.cell.Kind.TheVariants.{Narrow}
use Rattle.sheet.specs.declared.rendition.Colour.TheVariants.{Default}
use Rattle.sheet.specs.Cells.{Cell, blank}
use Rattle.sheet.proofs.cell.alike.put_letters.Given as goal

-- the characters so far are in the list, and the numbers tell of their cells
abbrev pub invariant-loop-at : goal.invariant-loop-at
invariant-loop-at l = record {
  long : length l.letters ≡ length l.cells;
  letters : take l.at l.letters ≡ map (λ (cell : Cell). cell.character) (take l.at l.cells);
  kinds : l.numbers.1 < 288230376151711744 → (k : ℕ) → k < l.at → (slice_index_or l.cells k (blank Default)).kind ≡ Narrow;
  alone : l.numbers.0 < 2097152 → (k : ℕ) → k < l.at → (slice_index_or l.cells k (blank Default)).marks ≡ [];
}
