use Rattle.std.proofs.Common.{◌≡◌, ◌%◌, ap, arith}
use Rattle.sheet.specs.Cells.{Cell}
use Rattle.sheet.specs.Numbers.{cell_of}
use Rattle.sheet.proofs.cell.Cell.ascii.Goals as goal

pub returns : goal.returns
unfolding cell_of
returns c = λ low.
    let is : c.self.inside.text % 2097152 ≡ c.args.self.character = ap (λ (x : Cell). x.character) c.self.view_is in
    omega (arith, is, low)
