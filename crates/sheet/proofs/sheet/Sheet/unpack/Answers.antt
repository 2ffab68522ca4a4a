use Rattle.std.proofs.Common.{◌≡◌, ℕ, ◌+◌, ◌-◌, ◌<◌, List, length, sym, ap, ap₂, ◌∙◌, arith, take_at}
use Rattle.std.specs.Vec.{with_items}
use Rattle.sheet.specs.Cells.{Cell}
use Rattle.sheet.specs.Grid.{no_origins, unknown_from}
use Rattle.sheet.specs.Held.{row_in}
use Rattle.sheet.specs.Packed.{unpacked}
use Rattle.sheet.specs.Table.{table}
use Rattle.sheet.specs.View.{held_of}
use Rattle.sheet.proofs.Packed.{unpacked_is, unpacked_sound}
use Rattle.sheet.proofs.Turns.{unknown_all}
use Rattle.sheet.proofs.sheet.Sheet.unpack.Goals as goal

-- what the three fields are in the end
is_order : (c : goal.After-self-3-1) → (with_items c.self.inside.order c.name_slots.new.order).items ≡ table (length c.self.inside.order.items) (λ line. line - 1)
is_order c =
    take_at c.name_slots.new.order _ c.self.inside.order.len (c.name_slots.auto.order ∙ c.as_mut_slice.ensures.len) ∙ c.name_slots.ensures
    ∙ ap (λ (order : List ℕ). table (length order) (λ line. line - 1)) c.as_mut_slice.ensures.value

is_restored : (c : goal.After-self-3-1) → (with_items c.self.inside.slots c.restore_slots.new.slots).items ≡ c.restore_slots.new.slots
is_restored c = take_at c.restore_slots.new.slots _ c.self.inside.slots.len (c.restore_slots.auto.slots ∙ c.as_mut_slice-2.ensures.len)

each : (c : goal.After-self-3-1) → (slot : ℕ) → slot < length c.self.inside.slots.items
    → row_in (with_items c.self.inside.slots c.restore_slots.new.slots).items slot ≡ unpacked (length (row_in c.self.inside.slots.items slot)) (row_in c.packed.inside.rows.items slot)
each c slot below =
    ap (λ (slots : List (List Cell)). row_in slots slot) (is_restored c) ∙ c.restore_slots.ensures slot (omega (arith, ap length c.as_mut_slice-2.ensures.value))
    ∙ ap₂ (λ (old kept : List (List Cell)). unpacked (length (row_in old slot)) (row_in kept slot)) c.as_mut_slice-2.ensures.value c.as_slice.ensures.value

forgot : (c : goal.After-self-3-1) → (with_items c.self.inside.origins c.forget_lines.new.origins).items ≡ no_origins (length c.self.inside.origins.items)
forgot c =
    take_at c.forget_lines.new.origins _ c.self.inside.origins.len (c.forget_lines.auto.origins ∙ c.as_mut_slice-3.ensures.len) ∙ c.forget_lines.ensures
    ∙ ap (unknown_from 1 (c.len-last.result + 1)) c.as_mut_slice-3.ensures.value
    ∙ unknown_all c.len-last.result c.self.inside.origins.items (c.self.invariant.origins ∙ sym (c.len-last.ensures ∙ c.self.inside.order.ok.0))

pub invariant_of-self : goal.invariant_of-self
invariant_of-self c =
    unpacked_sound (held_of c.self.inside) _ c.self.invariant c.self.view_is c.packed.inside.columns c.packed.inside.rows.items c.args.packed.now c.packed.invariant c.packed.view_is c.requires.columns c.requires.lines
    _ (is_order c) _ (ap length (is_restored c) ∙ c.restore_slots.auto.slots ∙ ap length c.as_mut_slice-2.ensures.value) (each c) _ (forgot c)

pub returns : goal.returns
returns c =
    unpacked_is (held_of c.self.inside) _ c.self.invariant c.self.view_is c.packed.inside.columns c.packed.inside.rows.items c.args.packed.now c.packed.invariant c.packed.view_is c.requires.columns c.requires.lines
    _ (is_order c) _ (ap length (is_restored c) ∙ c.restore_slots.auto.slots ∙ ap length c.as_mut_slice-2.ensures.value) (each c) _ (forgot c)
