use Rattle.std.proofs.Common.{◌≡◌, ℕ, ◌+◌, ◌-◌, List, length, sym, ap, subst, ◌∙◌, arith, take_at}
use Rattle.std.specs.Vec.{with_items}
use Rattle.sheet.specs.Cells.{Cell, blank}
use Rattle.sheet.specs.Grid.{unknown_from}
use Rattle.sheet.specs.Held.{LinesFilled, Once, SlotsStayOrFill, turned_up}
use Rattle.sheet.specs.View.{held_of}
use Rattle.sheet.proofs.Rows.{blank_narrow, blank_open}
use Rattle.sheet.proofs.Turns.{length-turned, lines_of, once_turned, scrolled_rows, scrolled_sound, scrolled_told, line_down, each_down}
use Rattle.sheet.proofs.sheet.Sheet.scroll_down.Goals as goal

pub turn-requires-clause-high : goal.turn-requires-clause-high
turn-requires-clause-high c = omega (arith, lines_of (held_of c.self.inside) _ c.self.view_is, ap length c.as_mut_slice.ensures.value)

order_back : (c : goal.After-as_slice) → c.as_slice.result.now ≡ turned_up (c.args.bottom + 1 - c.args.top - c.min-n.result) c.args.top c.args.bottom c.self.inside.order.items
order_back c =
    c.as_slice.ensures.value ∙ take_at c.turn.new.order _ c.self.inside.order.len (c.turn.auto.order ∙ c.as_mut_slice.ensures.len) ∙ c.turn.ensures
    ∙ ap (turned_up (c.args.bottom + 1 - c.args.top - c.min-n.result) c.args.top c.args.bottom) c.as_mut_slice.ensures.value

pub fill_lines-requires-clause-once : goal.fill_lines-requires-clause-once
fill_lines-requires-clause-once c =
    subst Once (sym (order_back c)) (once_turned c.self.inside.order.items (c.args.bottom + 1 - c.args.top - c.min-n.result) c.args.top c.args.bottom c.self.invariant.once c.requires.low (omega arith) c.requires.apart
    (omega (arith, lines_of (held_of c.self.inside) _ c.self.view_is)))

pub fill_lines-requires-clause-high : goal.fill_lines-requires-clause-high
fill_lines-requires-clause-high c =
    omega (arith, lines_of (held_of c.self.inside) _ c.self.view_is, ap length (order_back c), length-turned (c.args.bottom + 1 - c.args.top - c.min-n.result) c.args.top c.args.bottom c.self.inside.order.items)

pub turn_origins-requires-clause-high : goal.turn_origins-requires-clause-high
turn_origins-requires-clause-high c =
    omega (arith, lines_of (held_of c.self.inside) _ c.self.view_is, c.self.invariant.origins, ap length c.as_mut_slice-3.ensures.value)

pub turn_origins-requires-clause-last_high : goal.turn_origins-requires-clause-last_high
turn_origins-requires-clause-last_high c =
    omega (arith, lines_of (held_of c.self.inside) _ c.self.view_is, c.self.invariant.origins, ap length c.as_mut_slice-3.ensures.value)

-- what the three fields are in the end
is_turned : (c : goal.After-self-3-1) → (with_items c.self.inside.order c.turn.new.order).items ≡ turned_up (c.args.bottom + 1 - c.args.top - c.min-n.result) c.args.top c.args.bottom c.self.inside.order.items
is_turned c =
    take_at c.turn.new.order _ c.self.inside.order.len (c.turn.auto.order ∙ c.as_mut_slice.ensures.len) ∙ c.turn.ensures
    ∙ ap (turned_up (c.args.bottom + 1 - c.args.top - c.min-n.result) c.args.top c.args.bottom) c.as_mut_slice.ensures.value

is_cleared : (c : goal.After-self-3-1) → (with_items c.self.inside.slots c.fill_lines.new.slots).items ≡ c.fill_lines.new.slots
is_cleared c = take_at c.fill_lines.new.slots _ c.self.inside.slots.len (c.fill_lines.auto.slots ∙ c.as_mut_slice-2.ensures.len)

came : (c : goal.After-self-3-1) → (with_items c.self.inside.origins c.turn_origins.new.origins).items
    ≡ unknown_from c.args.top (c.args.top + c.min-n.result) (turned_up (c.args.bottom + 1 - c.args.top - c.min-n.result) c.args.top c.args.bottom c.self.inside.origins.items)
came c =
    take_at c.turn_origins.new.origins _ c.self.inside.origins.len (c.turn_origins.auto.origins ∙ c.as_mut_slice-3.ensures.len) ∙ c.turn_origins.ensures
    ∙ ap (λ (origins : List ℕ). unknown_from c.args.top (c.args.top + c.min-n.result) (turned_up (c.args.bottom + 1 - c.args.top - c.min-n.result) c.args.top c.args.bottom origins)) c.as_mut_slice-3.ensures.value

blanked : (c : goal.After-self-3-1) → LinesFilled c.args.top (c.args.top + c.min-n.result) (blank c.args.paper)
    (with_items c.self.inside.order c.turn.new.order).items c.self.inside.slots.items (with_items c.self.inside.slots c.fill_lines.new.slots).items
blanked c =
    let first = c.args.top in
    let last = c.args.top + c.min-n.result in
    let names = (with_items c.self.inside.order c.turn.new.order).items in
    subst (λ (new : List (List Cell)). LinesFilled first last (blank c.args.paper) names c.self.inside.slots.items new) (sym (is_cleared c))
    (subst (λ (old : List (List Cell)). LinesFilled first last (blank c.args.paper) names old c.fill_lines.new.slots) c.as_mut_slice-2.ensures.value
    (subst (λ (order : List ℕ). LinesFilled first last (blank c.args.paper) order c.as_mut_slice-2.result.now c.fill_lines.new.slots) c.as_slice.ensures.value
    (subst (λ (cell : Cell). LinesFilled first last cell c.as_slice.result.now c.as_mut_slice-2.result.now c.fill_lines.new.slots) c.blank-cell.ensures c.fill_lines.ensures.lines)))

stay : (c : goal.After-self-3-1) → SlotsStayOrFill (blank c.args.paper) c.self.inside.slots.items (with_items c.self.inside.slots c.fill_lines.new.slots).items
stay c =
    subst (λ (new : List (List Cell)). SlotsStayOrFill (blank c.args.paper) c.self.inside.slots.items new) (sym (is_cleared c))
    (subst (λ (old : List (List Cell)). SlotsStayOrFill (blank c.args.paper) old c.fill_lines.new.slots) c.as_mut_slice-2.ensures.value
    (subst (λ (cell : Cell). SlotsStayOrFill cell c.as_mut_slice-2.result.now c.fill_lines.new.slots) c.blank-cell.ensures c.fill_lines.ensures.slots))

pub invariant_of-self : goal.invariant_of-self
invariant_of-self c =
    scrolled_sound (held_of c.self.inside) _ c.self.invariant c.self.view_is (c.args.bottom + 1 - c.args.top - c.min-n.result) c.args.top c.args.bottom c.args.top (c.args.top + c.min-n.result) (blank c.args.paper) (blank_narrow c.args.paper) (blank_open c.args.paper) c.requires.low c.requires.apart c.requires.high (omega (arith, c.min-n.ensures))
    _ (is_turned c) _ (blanked c) (stay c) _ (came c) (line_down c.args.n c.min-n.result c.args.top c.args.bottom c.requires.low c.requires.apart c.min-n.ensures)
    (each_down c.args.n c.min-n.result c.args.top c.args.bottom c.requires.low c.requires.apart c.min-n.ensures)
    (ap length (is_cleared c) ∙ c.fill_lines.auto.slots ∙ ap length c.as_mut_slice-2.ensures.value)

pub returns-clause-rows : goal.returns-clause-rows
returns-clause-rows c =
    scrolled_rows (held_of c.self.inside) _ c.self.invariant c.self.view_is (c.args.bottom + 1 - c.args.top - c.min-n.result) c.args.top c.args.bottom c.args.top (c.args.top + c.min-n.result) (blank c.args.paper) (blank_narrow c.args.paper) (blank_open c.args.paper) c.requires.low c.requires.apart c.requires.high (omega (arith, c.min-n.ensures))
    _ (is_turned c) _ (blanked c) (stay c) _ (came c) (line_down c.args.n c.min-n.result c.args.top c.args.bottom c.requires.low c.requires.apart c.min-n.ensures)
    (each_down c.args.n c.min-n.result c.args.top c.args.bottom c.requires.low c.requires.apart c.min-n.ensures)

pub returns-clause-told : goal.returns-clause-told
returns-clause-told c =
    scrolled_told (held_of c.self.inside) _ c.self.invariant c.self.view_is (c.args.bottom + 1 - c.args.top - c.min-n.result) c.args.top c.args.bottom c.args.top (c.args.top + c.min-n.result) (blank c.args.paper) (blank_narrow c.args.paper) (blank_open c.args.paper) c.requires.low c.requires.apart c.requires.high (omega (arith, c.min-n.ensures))
    _ (is_turned c) _ (blanked c) (stay c) _ (came c) (line_down c.args.n c.min-n.result c.args.top c.args.bottom c.requires.low c.requires.apart c.min-n.ensures)
    (each_down c.args.n c.min-n.result c.args.top c.args.bottom c.requires.low c.requires.apart c.min-n.ensures)
