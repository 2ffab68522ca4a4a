use Rattle.std.proofs.Common.{List, length, ◌∙◌, ap, sym, subst, arith, take_at}
use Rattle.sheet.specs.Cells.{Cell}
use Rattle.sheet.specs.Edits.{mark_added}
use Rattle.sheet.specs.Grid.{IsUsed}
use Rattle.sheet.proofs.Used.{mark_used}
use Rattle.sheet.proofs.slot.Slot.add_mark.Goals as goal

pub invariant_of-self : goal.invariant_of-self
invariant_of-self c =
    let row = c.self.inside.cells.items in
    let len = ap length c.self.view_is in
    let is = take_at c.add_mark.new.cells _ c.self.inside.cells.len (c.add_mark.auto.cells ∙ c.as_mut_slice.ensures.len) ∙ c.add_mark.ensures
    ∙ ap (mark_added c.args.column c.args.mark) c.as_mut_slice.ensures.value in
    subst (λ (cells : List Cell). IsUsed cells c.max-self-inside.result) (sym is)
    (mark_used row c.self.inside.used c.self.invariant c.args.column c.args.mark c.max-self-inside.result
    (omega (arith, c.max-self-inside.ensures)) (omega (arith, c.max-self-inside.ensures)) (omega (arith, c.max-self-inside.ensures, c.self.invariant.within, c.requires.high, len)))
