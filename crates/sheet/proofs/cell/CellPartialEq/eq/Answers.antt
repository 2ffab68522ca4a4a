use Rattle.std.proofs.Common.{◌∙◌, Bool, ap₂, nat_eq}
use Rattle.std.specs.Prelude.{◌&&◌}
use Rattle.sheet.proofs.Numbers.{style_seen, text_seen}
use Rattle.sheet.proofs.cell.CellPartialEq.eq.Goals as goal

pub returns : goal.returns
returns c =
    let one = c.t1-1 in
    let two = c.t2-1 in
    c.and_eq.ensures ∙ ap₂ (λ (a b : Bool). a && b)
    (c.eq.ensures ∙ ap₂ nat_eq (text_seen one.inside.text one.inside.style _ one.invariant one.view_is) (text_seen two.inside.text two.inside.style _ two.invariant two.view_is))
    (ap₂ nat_eq (style_seen one.inside.text one.inside.style _ one.invariant one.view_is) (style_seen two.inside.text two.inside.style _ two.invariant two.view_is))
