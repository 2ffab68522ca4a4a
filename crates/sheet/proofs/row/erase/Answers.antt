use Rattle.std.proofs.Common.{◌+◌, ◌∙◌, ap, arith}
use Rattle.sheet.specs.Cells.{Cell}
use Rattle.sheet.specs.Cells.{blank}
use Rattle.sheet.specs.Halves.{border_mended}
use Rattle.sheet.specs.Edits.{filled}
use Rattle.sheet.proofs.Rows.{two_mended, filled_intact, blank_narrow, blank_open}
use Rattle.sheet.proofs.row.erase.Goals as goal

pub returns : goal.returns
returns c =
    let from = c.args.from in
    let to = c.args.to in
    let paper = c.args.paper in
    let row = c.args.cells.now in
    c.mend-2.ensures ∙ ap (border_mended (to + 1) paper) (c.mend.ensures ∙ ap (border_mended from paper) (c.fill.ensures ∙ ap (λ (e : Cell). filled from to e row) c.blank.ensures))
    ∙ two_mended from (to + 1) paper (filled from to (blank paper) row) c.requires.low (omega arith)
    (λ k a b. filled_intact row from to (blank paper) k c.requires.whole (blank_narrow paper) (blank_open paper) c.requires.low c.requires.high a b)
