use Rattle.std.proofs.Common.{length, ap, ◌∙◌}
use Rattle.vt_screen.specs.declared.cell.Row.{Row}
use Rattle.vt_screen.specs.Table.{table}
use Rattle.vt_screen.specs.Slots.{Held, first_order}
use Rattle.vt_screen.proofs.Rows.{blank_whole}
use Rattle.vt_screen.proofs.Turns.{first_once}
use Rattle.vt_screen.proofs.grid.Grid.new.Goals as goal

pub invariant_of-result : goal.invariant_of-result
unfolding table
invariant_of-result c = first_once c.blank.result (ap (λ (r : Row). length r.cells) c.blank.ensures ∙ blank_whole)

pub returns : goal.returns
unfolding table
returns c = ap (λ (r : Row). let h : Held = record { order = first_order; slots = table 24 (λ _. r) } in h) c.blank.ensures
