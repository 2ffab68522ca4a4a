use Rattle.std.proofs.Common.{◌≡◌, ◌+◌, ◌*◌, ◌%◌, ℕ, ap, ap₂, arith, sym, ◌∙◌}
use Rattle.std.proofs.lemmas.List.{get_or_default}
use Rattle.vt_screen.specs.declared.cell.Cell.{Cell}
use Rattle.vt_screen.specs.Attributes.{byte_of}
use Rattle.vt_screen.specs.Cells.{blank}
use Rattle.screen_page.specs.Numbered.{number_at}
use Rattle.screen_page.proofs.NumberLemmas.{mixed_more, mixed_none}
use Rattle.screen_page.proofs.numbered.row_number.Goals as goal

pub loop-at-init : goal.loop-at-init
loop-at-init c = mixed_none c.args.row.now.cells

pub loop-at-preserved : goal.loop-at-preserved
loop-at-preserved c =
    let cells = c.args.row.now.cells in
    let at = c.loop-at.at in
    let read = get_or_default cells at c.index-row-at.result blank (omega (arith, c.requires)) in
    let number : c.number.result ≡ number_at cells at =
    c.number.ensures.value ∙ ap (λ (cell : Cell). 256 * byte_of cell.rendition + cell.glyph) read in
    ap₂ (λ (a b : ℕ). (a + b * (2 * at + 1) % 65536) % 65536) c.loop-at.invariant number ∙ sym (mixed_more cells at)
