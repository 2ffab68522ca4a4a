use Rattle.std.proofs.Common.{◌∙◌, ap}
use Rattle.vt_screen.specs.declared.cell.Row.{Row}
use Rattle.vt_screen.specs.declared.cell.Size.TheVariants.{Single}
use Rattle.vt_screen.proofs.Rows.{filled_single}
use Rattle.vt_screen.proofs.cell.Row.fill_to.Goals as goal

pub returns : goal.returns
returns c =
    ap (λ (r : Row). let x : Row = record { size = Single; cells = r.cells } in x) c.fill_front.ensures
    ∙ filled_single c.args.self.now c.args.cell c.args.to
