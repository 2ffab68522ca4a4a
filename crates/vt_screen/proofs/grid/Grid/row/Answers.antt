use Rattle.std.proofs.Common.{◌∙◌, ap, sym}
use Rattle.vt_screen.specs.Slots.{row_in}
use Rattle.vt_screen.proofs.Index.{row_there}
use Rattle.vt_screen.proofs.grid.Grid.row.Goals as goal

pub returns-clause-value : goal.returns-clause-value
returns-clause-value c =
    c.row_in.ensures.value ∙ ap (row_in c.args.self.now.slots) c.slot_of.ensures.value
    ∙ sym (row_there c.args.self.now c.args.line c.requires.low c.requires.high)
