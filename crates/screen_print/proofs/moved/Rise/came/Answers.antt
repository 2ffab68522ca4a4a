use Rattle.std.proofs.Common.{◌≡◌, ◌+◌, ◌-◌, ◌∙◌, ap, arith}
use Rattle.vt_screen.specs.Cells.{row_at}
use Rattle.screen_print.proofs.moved.Rise.came.Goals as goal

pub returns : goal.returns
returns c = λ earlier later rise. record {
  low = omega arith;
  high = omega arith;
  down = omega arith;
  last = omega arith;
  rows = λ line low high.
      let there : line + c.args.self.far ≡ line + c.args.self.far - 0 = omega arith in
      rise.rows line low (omega arith) ∙ ap (row_at earlier.rows) there;
}
