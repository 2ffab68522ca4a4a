use Rattle.std.proofs.Common.{◌≡◌, ℕ, ◌+◌, List, length, sym, ap, ◌∙◌, arith, take_at}
use Rattle.std.specs.Vec.{with_items}
use Rattle.sheet.specs.Grid.{no_origins, unknown_from}
use Rattle.sheet.specs.View.{held_of}
use Rattle.sheet.proofs.Came.{all_told}
use Rattle.sheet.proofs.Tables.{length-table}
use Rattle.sheet.proofs.Turns.{lines_of, unknown_all}
use Rattle.sheet.proofs.sheet.Sheet.touch_all.Goals as goal

pub forget_lines-requires-clause-high : goal.forget_lines-requires-clause-high
forget_lines-requires-clause-high c =
    omega (arith, lines_of (held_of c.self.inside) _ c.self.view_is, c.self.invariant.origins, ap length c.as_mut_slice.ensures.value)

none : (c : goal.After-self-1) → (with_items c.self.inside.origins c.forget_lines.new.origins).items ≡ no_origins (length c.self.inside.origins.items)
none c =
    take_at c.forget_lines.new.origins _ c.self.inside.origins.len (c.forget_lines.auto.origins ∙ c.as_mut_slice.ensures.len) ∙ c.forget_lines.ensures
    ∙ ap (unknown_from 1 (c.len-last.result + 1)) c.as_mut_slice.ensures.value
    ∙ unknown_all c.len-last.result c.self.inside.origins.items (c.self.invariant.origins ∙ sym (c.len-last.ensures ∙ c.self.inside.order.ok.0))

pub invariant_of-self : goal.invariant_of-self
invariant_of-self c = let is = c.self.invariant in record {
  columns_low = is.columns_low;
  columns_high = is.columns_high;
  lines_low = is.lines_low;
  lines_high = is.lines_high;
  slots = is.slots;
  origins = ap length (none c) ∙ length-table (length c.self.inside.origins.items) (λ _. 0) ∙ is.origins;
  once = is.once;
  cells = is.cells;
  whole = is.whole;
}

pub returns-clause-told : goal.returns-clause-told
returns-clause-told c = λ before. all_told (length c.self.inside.origins.items) _ before _ (none c)
