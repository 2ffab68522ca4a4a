use Rattle.std.proofs.Common.{◌-◌, ◌∙◌, ap, arith, false, sym}
use Rattle.screen_print.specs.Start.{fits}
use Rattle.screen_print.proofs.QuietLemmas.{begins_in}
use Rattle.screen_print.proofs.StartLemmas.{first_not}
use Rattle.screen_print.proofs.by_line.may_stand.Goals as goal

pub returns : goal.returns
returns c = λ no.
    let at = c.args.column - 1 in
    begins_in c.args.sought.now.text.now c.args.still.now c.args.line c.args.column c.args.cells.now false c.sound.ensures.whole c.requires.low c.requires.high
    c.requires.left c.requires.right c.requires.cells
    (λ rest. first_not c.args.sought.now.text.now c.args.sought.now.start.now c.args.cells.now at c.index-cells-column.result rest c.requires.start (omega arith)
    (ap (fits c.args.sought.now.start.now.first) (sym c.index-cells-column.is) ∙ sym c.may_begin_at.ensures ∙ no))
