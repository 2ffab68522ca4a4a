use Rattle.vt_screen.proofs.Rows.{cell_written}
use Rattle.vt_screen.proofs.cell.Row.write.Goals as goal

pub returns : goal.returns
returns c = cell_written c.args.self.now c.args.column c.args.cell c.requires.whole c.requires.low c.requires.high
