use Rattle.vt_screen.proofs.Rows.{left_copied}
use Rattle.std.proofs.Common.{◌∙◌}
use Rattle.vt_screen.proofs.cell.Row.take_out.Goals as goal

pub returns : goal.returns
returns c =
    let by = c.copy_within.ensures.by_index in
    left_copied c.args.self.now c.copy_within.new.self c.args.from c.args.margin (c.copy_within.ensures.len ∙ c.requires.whole) c.requires.low
    c.args.n c.blank.result _ c.requires.room c.requires.high c.blank.ensures by.0 by.1 by.2 c.fill.ensures
