use Rattle.std.proofs.Common.{length, ◌∙◌, ap, sym, subst, arith, take_at}
use Rattle.sheet.specs.Edits.{run_put}
use Rattle.sheet.specs.Halves.{Whole}
use Rattle.sheet.proofs.Runs.{run_used_after}
use Rattle.sheet.proofs.slot.Slot.put_letters.Goals as goal

pub invariant_of-self : goal.invariant_of-self
invariant_of-self c =
    let row = c.self.inside.cells.items in
    let is = take_at c.put_letters.new.cells _ c.self.inside.cells.len (c.put_letters.auto.cells ∙ c.as_mut_slice.ensures.len) ∙ c.put_letters.ensures
    ∙ ap (run_put c.args.column c.args.letters.now c.args.rendition) c.as_mut_slice.ensures.value in
    run_used_after c.args.rendition c.args.letters.now c.args.column row _ c.self.inside.used c.max-self-inside.result (subst Whole (sym c.self.view_is) c.requires.whole) c.self.invariant
    c.requires.low (omega (arith, c.requires.high, ap length c.self.view_is)) c.max-self-inside.ensures is
