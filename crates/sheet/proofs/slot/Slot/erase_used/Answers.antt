use Rattle.std.proofs.Common.{◌≡◌, ◌<◌, ◌≤◌, ◌-◌, List, length, ◌∙◌, ap, sym, subst, arith, take_at}
use Rattle.std.proofs.lemmas.Bool.Decides.{nat_tests}
use Rattle.sheet.specs.Cells.{Cell}
use Rattle.sheet.specs.Edits.{erased}
use Rattle.sheet.specs.Grid.{IsUsed}
use Rattle.sheet.specs.Halves.{Whole}
use Rattle.sheet.proofs.Used.{erased_beyond, erased_short, erased_used}
use Rattle.sheet.proofs.slot.Slot.erase_used.Goals as goal

pub returns-then-from-self : goal.returns-then-from-self
returns-then-from-self c =
    let beyond : c.self.inside.used < c.args.from = (let test = c.if-from-self.true in grind (arith, nat_tests)) in
    subst (λ (row : List Cell). row ≡ erased c.args.from c.args.to c.args.paper row) c.self.view_is
    (erased_beyond c.self.inside.cells.items c.self.inside.used c.self.invariant c.args.paper c.requires.blank c.args.from c.args.to
    (subst Whole (sym c.self.view_is) c.requires.whole) beyond c.requires.apart)

pub invariant_of-self : goal.invariant_of-self
invariant_of-self c =
    let row = c.self.inside.cells.items in
    let used = c.self.inside.used in
    let len = ap length c.self.view_is in
    let inside : c.args.from ≤ used = (let test = c.if-from-self.false in grind (arith, nat_tests)) in
    let is = take_at c.erase.new.cells _ c.self.inside.cells.len (c.erase.auto.cells ∙ c.as_mut_slice.ensures.len) ∙ c.erase.ensures
    ∙ ap (erased c.args.from c.min-end.result c.args.paper) c.as_mut_slice.ensures.value in
    subst (λ (cells : List Cell). IsUsed cells (c.args.from - 1)) (sym is)
    (erased_used row used c.self.invariant c.args.paper c.requires.blank c.args.from c.min-end.result (c.args.from - 1) c.requires.low (omega (arith, c.min-end.ensures, c.requires.high, len))
    (omega (arith, inside)) (λ fewer. omega (arith, c.requires.low)) (λ fewer. omega (arith, c.if-end-self.true)))

pub invariant_of-self-else-end-self : goal.invariant_of-self-else-end-self
invariant_of-self-else-end-self c =
    let row = c.self.inside.cells.items in
    let used = c.self.inside.used in
    let len = ap length c.self.view_is in
    let inside : c.args.from ≤ used = (let test = c.if-from-self.false in grind (arith, nat_tests)) in
    let is = take_at c.erase.new.cells _ c.self.inside.cells.len (c.erase.auto.cells ∙ c.as_mut_slice.ensures.len) ∙ c.erase.ensures
    ∙ ap (erased c.args.from c.min-end.result c.args.paper) c.as_mut_slice.ensures.value in
    subst (λ (cells : List Cell). IsUsed cells used) (sym is)
    (erased_used row used c.self.invariant c.args.paper c.requires.blank c.args.from c.min-end.result used c.requires.low (omega (arith, c.min-end.ensures, c.requires.high, len))
    (omega (arith, inside)) (λ fewer. absurd (omega (arith, fewer))) (λ fewer. absurd (omega (arith, fewer))))

pub returns-then-end-self : goal.returns-then-end-self
returns-then-end-self c =
    let row = c.self.inside.cells.items in
    let is = take_at c.erase.new.cells _ c.self.inside.cells.len (c.erase.auto.cells ∙ c.as_mut_slice.ensures.len) ∙ c.erase.ensures
    ∙ ap (erased c.args.from c.min-end.result c.args.paper) c.as_mut_slice.ensures.value in
    is ∙ erased_short row c.self.inside.used c.self.invariant c.args.paper c.requires.blank c.args.from c.args.to c.min-end.result
    (λ less. omega (arith, less, c.min-end.ensures)) (omega (arith, c.min-end.ensures))
    ∙ ap (erased c.args.from c.args.to c.args.paper) c.self.view_is
