use Rattle.std.proofs.Common.{◌+◌, ◌*◌, ◌%◌, ℕ, ap₂}
use Rattle.sheet.specs.Mixed.{mixed}
use Rattle.sheet.proofs.Numbers.{style_seen, text_seen}
use Rattle.sheet.proofs.cell.Cell.mixed.Goals as goal

pub returns : goal.returns
unfolding mixed
returns c =
    let one = c.self in
    ap₂ (λ (s t : ℕ). ((c.args.sum + s) % 18446744073709551616 * 6364136223846793005 % 18446744073709551616 + t) % 18446744073709551616)
    (style_seen one.inside.text one.inside.style _ one.invariant one.view_is) (text_seen one.inside.text one.inside.style _ one.invariant one.view_is)
