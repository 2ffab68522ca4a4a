use Rattle.std.proofs.Common.{List, [], ◌∷◌, false, length, ◌∙◌, ap, sym, subst, arith, take_at}
use Rattle.sheet.specs.Cells.{Cell}
use Rattle.sheet.specs.Edits.{put}
use Rattle.sheet.specs.Halves.{Whole}
use Rattle.sheet.specs.Grid.{IsUsed}
use Rattle.sheet.proofs.Runs.{run_used}
use Rattle.sheet.proofs.slot.Slot.put_narrow.Goals as goal

pub invariant_of-self : goal.invariant_of-self
invariant_of-self c =
    let row = c.self.inside.cells.items in
    let len = ap length c.self.view_is in
    let is = take_at c.put_narrow.new.cells _ c.self.inside.cells.len (c.put_narrow.auto.cells ∙ c.as_mut_slice.ensures.len) ∙ c.put_narrow.ensures
    ∙ ap (put c.args.column c.args.character false c.args.rendition) c.as_mut_slice.ensures.value in
    subst (λ (cells : List Cell). IsUsed cells c.max-self-inside.result) (sym is)
    (run_used c.args.rendition (c.args.character ∷ []) c.args.column row c.self.inside.used c.max-self-inside.result (subst Whole (sym c.self.view_is) c.requires.whole) c.self.invariant
    c.requires.low (omega (arith, c.requires.high, len)) (omega (arith, c.max-self-inside.ensures)) (omega (arith, c.max-self-inside.ensures))
    (omega (arith, c.max-self-inside.ensures, c.self.invariant.within, c.requires.high, len)))
