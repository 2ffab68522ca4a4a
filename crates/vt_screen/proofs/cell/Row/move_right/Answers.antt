use Rattle.vt_screen.proofs.Rows.{right_copied}
use Rattle.std.proofs.Common.{◌∙◌}
use Rattle.vt_screen.proofs.cell.Row.move_right.Goals as goal

pub returns : goal.returns
returns c =
    let by = c.copy_within.ensures.by_index in
    right_copied c.args.self.now c.copy_within.new.self c.args.from c.args.margin (c.copy_within.ensures.len ∙ c.requires.whole) c.requires.low
    c.requires.within by.0 by.1 by.2
