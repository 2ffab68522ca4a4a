use Rattle.std.proofs.Common.{◌≡◌, ◌≤◌, ℕ, List, length, sym, ap, ◌∙◌, arith}
use Rattle.sheet.specs.Grid.{Grid, is_touched}
use Rattle.sheet.specs.View.{held_of}
use Rattle.sheet.proofs.Index.{inside}
use Rattle.sheet.proofs.sheet.Sheet.any_touched.Goals as goal

pub is_any_touched-requires : goal.is_any_touched-requires
is_any_touched-requires c = omega (arith, c.self.invariant.origins, c.self.invariant.lines_high, ap length c.as_slice.ensures.value)

pub returns : goal.returns
returns c = λ none line low high.
    let long : line ≤ length c.as_slice.result.now =
    omega (arith, inside (held_of c.self.inside) _ c.self.invariant c.self.view_is line low high, c.self.invariant.origins, ap length c.as_slice.ensures.value) in
    sym (ap (λ (g : Grid). is_touched g.origins line) c.self.view_is) ∙ ap (λ (origins : List ℕ). is_touched origins line) (sym c.as_slice.ensures.value)
    ∙ c.is_any_touched.ensures none line low long
