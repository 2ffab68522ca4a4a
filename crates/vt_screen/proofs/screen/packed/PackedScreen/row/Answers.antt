use Rattle.std.proofs.Common.{List, ◌∙◌, ap, subst, sym}
use Rattle.vt_screen.specs.declared.cell.Cell.{Cell}
use Rattle.vt_screen.specs.Cells.{row_at}
use Rattle.vt_screen.specs.Packed.{IsPart, part_at, unpacked}
use Rattle.vt_screen.specs.Picture.{Picture}
use Rattle.vt_screen.proofs.Packed.{row_read}
use Rattle.vt_screen.proofs.Tables.{nth_is}
use Rattle.vt_screen.proofs.screen.packed.PackedScreen.row.Goals as goal

pub row_of-requires : goal.row_of-requires
row_of-requires c =
    let parts = c.self.inside.parts in
    let line = c.args.line in
    let part = c.self.invariant.part line c.requires.low c.requires.high in
    subst (IsPart c.as_slice.result.now) (nth_is _ parts line)
    (subst (λ (cells : List Cell). IsPart cells (part_at parts line)) (sym c.as_slice.ensures.value) part)

pub returns-clause-value : goal.returns-clause-value
returns-clause-value c =
    let parts = c.self.inside.parts in
    let line = c.args.line in
    c.row_of.ensures.value ∙ ap (unpacked c.as_slice.result.now) (sym (nth_is _ parts line))
    ∙ ap (λ (cells : List Cell). unpacked cells (part_at parts line)) c.as_slice.ensures.value
    ∙ sym (row_read c.self.inside line c.requires.low c.requires.high)
    ∙ ap (λ (p : Picture). row_at p.rows line) c.self.view_is
