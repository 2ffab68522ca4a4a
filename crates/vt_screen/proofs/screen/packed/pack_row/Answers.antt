use Rattle.std.proofs.Common.{◌≡◌, List, ◌++◌, ◌∙◌, ap, subst, sym, length, take, arith}
use Rattle.vt_screen.specs.declared.cell.Cell.{Cell}
use Rattle.vt_screen.specs.Packed.{IsPart, unpacked}
use Rattle.vt_screen.proofs.Packed.{packed_row, part_stays, unpacked_stays}
use Rattle.vt_screen.proofs.screen.packed.pack_row.Goals as goal

pub returns-clause-row : goal.returns-clause-row
returns-clause-row c =
    let old = c.args.cells.now.items in
    let row = c.args.row.now in
    let from : c.len-from.result ≡ length old = omega (arith, c.len-from.ensures) in
    rw (c.in_ok-extend_from_slice.ensures.items, from) (packed_row old row c.args.len c.requires.whole c.requires.used.tail)

pub returns-clause-others : goal.returns-clause-others
returns-clause-others c = λ part is.
    let old = c.args.cells.now.items in
    let more = take c.args.len c.args.row.now.cells in
    let items : c.extend_from_slice.new.self.items ≡ old ++ more = c.in_ok-extend_from_slice.ensures.items in (
      subst (λ (cells : List Cell). IsPart cells part) (sym items) (part_stays old more part is),
      ap (λ (cells : List Cell). unpacked cells part) items ∙ unpacked_stays old more part is,
    )
