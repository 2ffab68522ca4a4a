use Rattle.std.proofs.Common.{◌≡◌, List, ◌∙◌, ap, subst, sym, refl}
use Rattle.vt_screen.specs.declared.cell.Row.{Row}
use Rattle.vt_screen.specs.Cells.{row_at}
use Rattle.vt_screen.specs.Packed.{packed_picture}
use Rattle.vt_screen.specs.Picture.{Picture, Sound}
use Rattle.vt_screen.specs.Slots.{rows_of}
use Rattle.vt_screen.proofs.Packed.{same_rows}
use Rattle.vt_screen.proofs.Tables.{length-table}
use Rattle.vt_screen.specs.Table.{table}
use Rattle.vt_screen.proofs.Told.{nothing_told}
use Rattle.vt_screen.proofs.screen.Screen.unpack.Goals as goal

pub invariant_of-self : goal.invariant_of-self
invariant_of-self c =
    let rows : rows_of c.put_rows.new.grid ≡ (packed_picture c.packed.inside).rows =
    same_rows (rows_of c.put_rows.new.grid) (packed_picture c.packed.inside).rows (length-table 24 _) (length-table 24 _)
    (λ line low high. c.put_rows.ensures line low high ∙ sym (ap (λ (p : Picture). row_at p.rows line) c.packed.view_is)) in
    subst Sound (sym (ap (λ (r : List Row). record (packed_picture c.packed.inside) { rows = r }) rows)) c.packed.invariant.sound

pub returns-clause-picture : goal.returns-clause-picture
returns-clause-picture c =
    let rows : rows_of c.put_rows.new.grid ≡ (packed_picture c.packed.inside).rows =
    same_rows (rows_of c.put_rows.new.grid) (packed_picture c.packed.inside).rows (length-table 24 _) (length-table 24 _)
    (λ line low high. c.put_rows.ensures line low high ∙ sym (ap (λ (p : Picture). row_at p.rows line) c.packed.view_is)) in
    ap (λ (r : List Row). record (packed_picture c.packed.inside) { rows = r }) rows ∙ c.packed.view_is

pub returns-clause-touched : goal.returns-clause-touched
unfolding table
returns-clause-touched c = refl

pub returns-clause-told : goal.returns-clause-told
returns-clause-told c before = nothing_told _ before _ (returns-clause-touched c)
