use Rattle.std.proofs.Common.{List, true, length, ◌∙◌, ap, sym, subst, arith, take_at}
use Rattle.sheet.specs.Cells.{Cell}
use Rattle.sheet.specs.Edits.{put}
use Rattle.sheet.specs.Grid.{IsUsed}
use Rattle.sheet.proofs.Used.{wide_used}
use Rattle.sheet.proofs.slot.Slot.put_wide.Goals as goal

pub invariant_of-self : goal.invariant_of-self
invariant_of-self c =
    let row = c.self.inside.cells.items in
    let len = ap length c.self.view_is in
    let is = take_at c.put_wide.new.cells _ c.self.inside.cells.len (c.put_wide.auto.cells ∙ c.as_mut_slice.ensures.len) ∙ c.put_wide.ensures
    ∙ ap (put c.args.column c.args.character true c.args.rendition) c.as_mut_slice.ensures.value in
    subst (λ (cells : List Cell). IsUsed cells c.max-self-inside.result) (sym is)
    (wide_used row c.self.inside.used c.self.invariant c.args.column c.args.character c.args.rendition c.max-self-inside.result c.requires.low (omega (arith, c.requires.high, len))
    (omega (arith, c.max-self-inside.ensures)) (omega (arith, c.max-self-inside.ensures)) (omega (arith, c.max-self-inside.ensures, c.self.invariant.within, c.requires.high, len)))
