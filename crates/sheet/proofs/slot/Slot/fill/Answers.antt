use Rattle.std.proofs.Common.{◌≡◌, ℕ, ◌∙◌, List, length, ap, ap₂, refl, subst, sym, take_at}
use Rattle.std.specs.Vec.{with_items}
use Rattle.sheet.specs.Cells.{Cell}
use Rattle.sheet.specs.Edits.{filled}
use Rattle.sheet.specs.Grid.{IsUsed, row_of}
use Rattle.sheet.proofs.Packed.{all_used, filled_used, none_used}
use Rattle.sheet.proofs.Rows.{all_filled}
use Rattle.sheet.proofs.slot.Slot.fill.Goals as goal

pub invariant_of-self : goal.invariant_of-self
invariant_of-self c =
    let cells = c.self.inside.cells.items in
    let blank = c.is_blank.ensures c.if-is_blank.true in
    let is = take_at c.fill.new.cells _ c.self.inside.cells.len (c.fill.auto.cells ∙ c.as_mut_slice.ensures.len) ∙ c.fill.ensures
    ∙ ap (filled 1 c.self.inside.used c.args.cell) c.as_mut_slice.ensures.value
    ∙ filled_used cells c.self.inside.used c.args.cell c.self.invariant blank in
    subst (λ (row : List Cell). IsUsed row 0) (sym is) (none_used (length cells) c.args.cell blank)

pub returns-then-is_blank : goal.returns-then-is_blank
returns-then-is_blank c =
    take_at c.fill.new.cells _ c.self.inside.cells.len (c.fill.auto.cells ∙ c.as_mut_slice.ensures.len) ∙ c.fill.ensures
    ∙ ap (filled 1 c.self.inside.used c.args.cell) c.as_mut_slice.ensures.value
    ∙ filled_used c.self.inside.cells.items c.self.inside.used c.args.cell c.self.invariant (c.is_blank.ensures c.if-is_blank.true)
    ∙ ap (λ (row : List Cell). row_of (length row) c.args.cell) c.self.view_is

pub invariant_of-self-else-is_blank : goal.invariant_of-self-else-is_blank
invariant_of-self-else-is_blank c = all_used _ _ (c.len-columns.ensures ∙ (with_items c.self.inside.cells c.fill-else-is_blank.new.cells).ok.0)

pub returns-else-is_blank : goal.returns-else-is_blank
returns-else-is_blank c =
    let cells = c.self.inside.cells.items in
    let len : c.len-columns.result ≡ length cells = c.len-columns.ensures ∙ c.self.inside.cells.ok.0 in
    let now : c.fill-else-is_blank.new.cells ≡ filled 1 (length cells) c.args.cell cells =
    c.fill-else-is_blank.ensures ∙ ap₂ (λ (n : ℕ) (row : List Cell). filled 1 n c.args.cell row) len c.as_mut_slice-else-is_blank.ensures.value in
    take_at c.fill-else-is_blank.new.cells _ c.self.inside.cells.len (c.fill-else-is_blank.auto.cells ∙ c.as_mut_slice-else-is_blank.ensures.len)
    ∙ now ∙ all_filled cells c.args.cell c.args.cell refl ∙ ap (λ (row : List Cell). row_of (length row) c.args.cell) c.self.view_is
