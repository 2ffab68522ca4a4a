use Rattle.std.proofs.Common.{◌∙◌, length, ap}
use Rattle.sheet.specs.Packed.{unpacked}
use Rattle.sheet.proofs.Packed.{all_used, kept_row}
use Rattle.sheet.proofs.slot.Slot.keep.Goals as goal

pub returns-clause-row : goal.returns-clause-row
returns-clause-row c =
    ap (unpacked (length c.args.cells.now)) (c.in_ok-cells.ensures.items_if_clones_equal (λ x y h. h))
    ∙ kept_row c.args.cells.now c.used-used.result c.used-used.ensures

pub invariant_of-result : goal.invariant_of-result
invariant_of-result c = all_used _ _ (c.len-used.ensures ∙ c.in_ok-cells.cells.ok.0)
