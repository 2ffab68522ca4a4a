use Rattle.std.proofs.Common.{List, length, ◌∙◌, ap, sym, subst, arith, take_at}
use Rattle.sheet.specs.Cells.{Cell}
use Rattle.sheet.specs.Grid.{IsUsed}
use Rattle.sheet.specs.Packed.{unpacked}
use Rattle.sheet.proofs.Used.{unpacked_used}
use Rattle.sheet.proofs.slot.Slot.restore.Goals as goal

pub invariant_of-self : goal.invariant_of-self
invariant_of-self c =
    let kept = c.kept.inside.cells.items in
    let is = take_at c.restore.new.cells _ c.self.inside.cells.len (c.restore.auto.cells ∙ c.as_mut_slice.ensures.len) ∙ c.restore.ensures
    ∙ ap (λ (row : List Cell). unpacked (length row) c.cells.result.now) c.as_mut_slice.ensures.value ∙ ap (unpacked (length c.self.inside.cells.items)) (c.cells.ensures ∙ sym c.kept.view_is) in
    subst (λ (cells : List Cell). IsUsed cells c.kept.inside.used) (sym is)
    (unpacked_used (length c.self.inside.cells.items) kept c.kept.inside.used c.kept.invariant (omega (arith, c.requires, ap length c.kept.view_is, ap length c.self.view_is)))
