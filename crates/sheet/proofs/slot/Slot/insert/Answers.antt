use Rattle.std.proofs.Common.{List, length, ◌∙◌, ap, sym, subst, arith, take_at}
use Rattle.sheet.specs.Cells.{Cell}
use Rattle.sheet.specs.Edits.{inserted}
use Rattle.sheet.specs.Grid.{IsUsed}
use Rattle.sheet.proofs.Used.{inserted_used}
use Rattle.sheet.proofs.slot.Slot.insert.Goals as goal

pub invariant_of-self : goal.invariant_of-self
invariant_of-self c =
    let row = c.self.inside.cells.items in
    let len = ap length c.self.view_is in
    let is = take_at c.insert.new.cells _ c.self.inside.cells.len (c.insert.auto.cells ∙ c.as_mut_slice.ensures.len) ∙ c.insert.ensures
    ∙ ap (inserted c.args.n c.args.from c.args.paper) c.as_mut_slice.ensures.value in
    subst (λ (cells : List Cell). IsUsed cells c.min-self-inside.result) (sym is)
    (inserted_used row c.self.inside.used c.self.invariant c.args.n c.args.from c.args.paper c.min-self-inside.result c.requires.low
    (λ few. omega (arith, few, c.min-self-inside.ensures, c.max.ensures, c.len.ensures, c.self.inside.cells.ok.0))
    (λ few. omega (arith, few, c.min-self-inside.ensures, c.max.ensures, c.len.ensures, c.self.inside.cells.ok.0))
    (omega (arith, c.min-self-inside.ensures, c.len.ensures, c.self.inside.cells.ok.0)))
