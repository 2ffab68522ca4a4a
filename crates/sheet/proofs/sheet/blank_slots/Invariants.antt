use Rattle.std.proofs.Common.{◌≡◌}
use Rattle.sheet.specs.declared.rendition.Colour.TheVariants.{Default}
use Rattle.sheet.specs.Grid.{blank_row}
use Rattle.sheet.specs.Table.{table}
use Rattle.sheet.proofs.sheet.blank_slots.Given as goal

abbrev pub invariant-loop-line : goal.invariant-loop-line
invariant-loop-line l = l.slots.items ≡ table l.line (λ _. blank_row l.columns Default)
