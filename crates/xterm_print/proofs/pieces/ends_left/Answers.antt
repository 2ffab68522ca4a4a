use Rattle.std.proofs.Common.{◌∙◌, ◌-◌, ap, subst, sym}
use Rattle.standings.specs.Kept.{EndBy}
use Rattle.standings.specs.Standing.{standing}
use Rattle.xterm_print.proofs.pieces.ends_left.Goals as goal

pub returns : goal.returns
returns c = λ told text x many shows rows was.
    let still = c.args.still.now in
    subst (λ b. EndBy c.args.len still.rows.items still.places.items (x.console.picture.line - 1) b) (c.cursor_place-above.ensures.before x shows rows)
    (subst (λ a. EndBy c.args.len still.rows.items still.places.items a c.cursor_place-above.result.1) (c.cursor_place-above.ensures.above x shows)
    (c.ends_before.ensures told text many (was ∙ ap (λ r. standing text r) (sym rows))))
