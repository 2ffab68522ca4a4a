use Rattle.std.proofs.Common.{◌≡◌, ◌+◌, ◌-◌, ◌∙◌, ap, arith, sym}
use Rattle.vt_screen.specs.Cells.{row_at}
use Rattle.screen_print.proofs.moved.Rise.went.Goals as goal

pub returns : goal.returns
returns c = λ earlier later rise. record {
  low = omega arith;
  high = omega arith;
  down = omega arith;
  last = omega arith;
  rows = λ line low high.
      let far = c.args.self.far in
      let back : line - far + far ≡ line = omega arith in
      let there : line - far ≡ line + 0 - far = omega arith in
      sym (rise.rows (line - far) (omega arith) (omega arith) ∙ ap (row_at earlier.rows) back) ∙ ap (row_at later.rows) there;
}
