use Rattle.std.proofs.Common.{◌∙◌, ◌+◌, ◌-◌, ◌<◌, ap, arith, drop, sym}
use Rattle.std.proofs.lemmas.List.{get_or-drop, get_or-take, length-drop, length-take}
use Rattle.vt_screen.specs.declared.cell.Cell.{Cell}
use Rattle.vt_screen.specs.Cells.{blank}
use Rattle.screen_print.proofs.free.is_blank.Goals as goal

pub returns : goal.returns
returns c = λ all k lt.
    let cells = c.args.row.now.cells in
    let at = c.args.at in
    let n = at + c.min.result - at in
    let within : k < n = omega (arith, lt, c.min.ensures, c.rounded_up.ensures, c.requires.within) in
    ap (λ (cell : Cell). cell.glyph) (sym (get_or-take n (drop at cells) k blank within ∙ get_or-drop at cells k blank))
    ∙ c.are_spaces.ensures all k (omega (arith, within, length-take n (drop at cells), length-drop at cells, c.requires.whole, c.min.ensures))
