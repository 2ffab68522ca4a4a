use Rattle.std.proofs.Common.{◌≡◌, ◌+◌, arith, inl, inr, subst}
use Rattle.std.proofs.lemmas.Bool.{cases_lt}
use Rattle.vt_screen.specs.Cells.{row_at}
use Rattle.screen_print.proofs.moved.count_moved.Goals as goal

pub loop-line-preserved : goal.loop-line-preserved
loop-line-preserved c = λ line low high.
    let later = c.args.later.now in
    let earlier = c.args.earlier.now in
    elim (cases_lt line c.loop-line.line) [
      | inl lt ↦ c.loop-line.invariant line low lt
      | inr ge ↦
          let at : c.loop-line.line ≡ line = omega arith in
          subst (λ k. row_at later.rows k ≡ row_at earlier.rows (k + c.args.far)) at (c.is_same.ensures c.if-not-is_same.false)
    ]
