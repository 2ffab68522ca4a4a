use Rattle.std.proofs.Common.{◌≡◌, ℕ, ◌+◌, List, length, sym, ap, subst, ◌∙◌, arith, take_at}
use Rattle.std.specs.Vec.{with_items}
use Rattle.std.specs.Prelude.{false}
use Rattle.sheet.specs.declared.rendition.Colour.TheVariants.{Default}
use Rattle.sheet.specs.Cells.{Cell, alignment, plain_on}
use Rattle.sheet.specs.Grid.{lines_filled, row_of, unknown_from}
use Rattle.sheet.specs.Held.{LinesFilled, Once, SlotsStayOrFill}
use Rattle.sheet.specs.View.{held_of}
use Rattle.sheet.proofs.Rows.{lettered_open, lettered_wide}
use Rattle.sheet.proofs.Turns.{filled_rows, filled_sound, filled_told, lines_all, lines_of, rows_counted}
use Rattle.sheet.proofs.sheet.Sheet.align.Goals as goal

pub fill_lines-requires-clause-once : goal.fill_lines-requires-clause-once
fill_lines-requires-clause-once c = subst Once (sym c.as_slice.ensures.value) c.self.invariant.once

pub fill_lines-requires-clause-slots : goal.fill_lines-requires-clause-slots
fill_lines-requires-clause-slots c = ap length c.as_mut_slice.ensures.value ∙ c.self.invariant.slots ∙ sym (ap length c.as_slice.ensures.value)

pub fill_lines-requires-clause-high : goal.fill_lines-requires-clause-high
fill_lines-requires-clause-high c = omega (arith, lines_of (held_of c.self.inside) _ c.self.view_is, ap length c.as_slice.ensures.value)

pub forget_lines-requires-clause-high : goal.forget_lines-requires-clause-high
forget_lines-requires-clause-high c =
    omega (arith, lines_of (held_of c.self.inside) _ c.self.view_is, c.self.invariant.origins, ap length c.as_mut_slice-2.ensures.value)

-- what the two fields are in the end
is_filled : (c : goal.After-self-2-1) → (with_items c.self.inside.slots c.fill_lines.new.slots).items ≡ c.fill_lines.new.slots
is_filled c = take_at c.fill_lines.new.slots _ c.self.inside.slots.len (c.fill_lines.auto.slots ∙ c.as_mut_slice.ensures.len)

forgot : (c : goal.After-self-2-1) → (with_items c.self.inside.origins c.forget_lines.new.origins).items ≡ unknown_from 1 (c.len-last.result + 1) c.self.inside.origins.items
forgot c =
    take_at c.forget_lines.new.origins _ c.self.inside.origins.len (c.forget_lines.auto.origins ∙ c.as_mut_slice-2.ensures.len) ∙ c.forget_lines.ensures
    ∙ ap (unknown_from 1 (c.len-last.result + 1)) c.as_mut_slice-2.ensures.value

filled : (c : goal.After-self-2-1) → LinesFilled 1 (c.len-last.result + 1) alignment c.self.inside.order.items c.self.inside.slots.items (with_items c.self.inside.slots c.fill_lines.new.slots).items
filled c =
    let first : ℕ = 1 in
    let last = c.len-last.result + 1 in
    subst (λ (new : List (List Cell)). LinesFilled first last alignment c.self.inside.order.items c.self.inside.slots.items new) (sym (is_filled c))
    (subst (λ (old : List (List Cell)). LinesFilled first last alignment c.self.inside.order.items old c.fill_lines.new.slots) c.as_mut_slice.ensures.value
    (subst (λ (order : List ℕ). LinesFilled first last alignment order c.as_mut_slice.result.now c.fill_lines.new.slots) c.as_slice.ensures.value
    (subst (λ (cell : Cell). LinesFilled first last cell c.as_slice.result.now c.as_mut_slice.result.now c.fill_lines.new.slots) c.alignment-cell.ensures c.fill_lines.ensures.lines)))

stay : (c : goal.After-self-2-1) → SlotsStayOrFill alignment c.self.inside.slots.items (with_items c.self.inside.slots c.fill_lines.new.slots).items
stay c =
    subst (λ (new : List (List Cell)). SlotsStayOrFill alignment c.self.inside.slots.items new) (sym (is_filled c))
    (subst (λ (old : List (List Cell)). SlotsStayOrFill alignment old c.fill_lines.new.slots) c.as_mut_slice.ensures.value
    (subst (λ (cell : Cell). SlotsStayOrFill cell c.as_mut_slice.result.now c.fill_lines.new.slots) c.alignment-cell.ensures c.fill_lines.ensures.slots))

pub invariant_of-self : goal.invariant_of-self
invariant_of-self c =
    filled_sound 1 c.len-last.result (held_of c.self.inside) _ c.self.invariant c.self.view_is alignment (lettered_wide 69 false (plain_on Default)) (lettered_open 69 false (plain_on Default))
    _ (filled c) (stay c) _ (forgot c) (ap length (is_filled c) ∙ c.fill_lines.auto.slots ∙ ap length c.as_mut_slice.ensures.value)

pub returns-clause-rows : goal.returns-clause-rows
returns-clause-rows c =
    filled_rows 1 c.len-last.result (held_of c.self.inside) _ c.self.invariant c.self.view_is alignment (lettered_wide 69 false (plain_on Default)) (lettered_open 69 false (plain_on Default))
    _ (filled c) (stay c) _ (forgot c)
    ∙ ap (λ (n : ℕ). lines_filled 1 n (row_of c.args.self.now.columns alignment) c.args.self.now.rows) (c.len-last.ensures ∙ c.self.inside.order.ok.0 ∙ sym (lines_of (held_of c.self.inside) _ c.self.view_is))
    ∙ lines_all c.args.self.now.lines (row_of c.args.self.now.columns alignment) c.args.self.now.rows (rows_counted (held_of c.self.inside) _ c.self.view_is)

pub returns-clause-told : goal.returns-clause-told
returns-clause-told c =
    filled_told 1 c.len-last.result (held_of c.self.inside) _ c.self.invariant c.self.view_is alignment (lettered_wide 69 false (plain_on Default)) (lettered_open 69 false (plain_on Default))
    _ (filled c) (stay c) _ (forgot c)
