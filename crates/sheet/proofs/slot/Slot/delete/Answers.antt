use Rattle.std.proofs.Common.{List, ◌∙◌, ap, sym, subst, take_at}
use Rattle.std.specs.Vec.{with_items}
use Rattle.sheet.specs.Cells.{Cell}
use Rattle.sheet.specs.Edits.{deleted}
use Rattle.sheet.specs.Grid.{IsUsed}
use Rattle.sheet.specs.Halves.{Whole}
use Rattle.sheet.proofs.Packed.{all_used}
use Rattle.sheet.proofs.Used.{deleted_used}
use Rattle.sheet.proofs.slot.Slot.delete.Goals as goal

pub invariant_of-self : goal.invariant_of-self
invariant_of-self c = all_used _ _ (c.len-self-inside.ensures ∙ (with_items c.self.inside.cells c.delete.new.cells).ok.0)

pub invariant_of-self-else-not-is_blank : goal.invariant_of-self-else-not-is_blank
invariant_of-self-else-not-is_blank c =
    let row = c.self.inside.cells.items in
    let is = take_at c.delete.new.cells _ c.self.inside.cells.len (c.delete.auto.cells ∙ c.as_mut_slice.ensures.len) ∙ c.delete.ensures
    ∙ ap (deleted c.args.n c.args.from c.args.paper) c.as_mut_slice.ensures.value in
    subst (λ (cells : List Cell). IsUsed cells c.self.inside.used) (sym is)
    (deleted_used row c.self.inside.used c.self.invariant c.args.paper (sym c.blank.ensures ∙ c.is_blank.ensures c.if-not-is_blank.false) c.args.n c.args.from
    (subst Whole (sym c.self.view_is) c.requires.whole) c.requires.low)
