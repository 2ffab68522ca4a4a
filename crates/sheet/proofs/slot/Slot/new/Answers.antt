use Rattle.std.proofs.Common.{List, refl, sym, subst}
use Rattle.sheet.specs.Cells.{Cell}
use Rattle.sheet.specs.Grid.{IsUsed}
use Rattle.sheet.proofs.Packed.{none_used}
use Rattle.sheet.proofs.Rows.{all_copied}
use Rattle.sheet.proofs.slot.Slot.new.Goals as goal

pub returns : goal.returns
returns c = all_copied _ c.args.columns c.empty.result _ c.empty.ensures (c.in_ok-cells.ensures.items_if_clones_equal (λ y h. h))

pub invariant_of-result : goal.invariant_of-result
invariant_of-result c =
    subst (λ (cells : List Cell). IsUsed cells 0) (sym (all_copied _ c.args.columns c.empty.result _ c.empty.ensures (c.in_ok-cells.ensures.items_if_clones_equal (λ y h. h))))
    (none_used c.args.columns _ refl)
