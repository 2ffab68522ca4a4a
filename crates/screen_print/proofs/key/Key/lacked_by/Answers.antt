use Rattle.std.proofs.Common.{◌≡◌, ◌∙◌, ap, arith, inl, inr, subst}
use Rattle.std.proofs.lemmas.Bool.{cases_lt}
use Rattle.vt_screen.specs.Cells.{row_at}
use Rattle.screen_print.specs.Skim.{RowLacks, ScreenLacks}
use Rattle.screen_print.proofs.SkimRows.{rows_lack}
use Rattle.screen_print.proofs.key.Key.lacked_by.Goals as goal

pub loop-line-preserved : goal.loop-line-preserved
loop-line-preserved c = λ k low high.
    let key = c.args.self.now.chars.now in
    let p = c.screen-screen.result.now.picture in
    elim (cases_lt k c.loop-line.line) [
      | inl lt ↦ c.loop-line.invariant k low lt
      | inr past ↦
          let at : c.loop-line.line ≡ k = omega arith in
          subst (λ w. RowLacks key w (row_at p.rows k)) c.is_wide.ensures
          (subst (RowLacks key c.is_wide.result) (c.row.ensures.value ∙ ap (row_at p.rows) at) (c.lacked_in.ensures c.if-not-lacked_in.false))
    ]

pub returns : goal.returns
returns c = λ _.
    let key = c.args.self.now.chars.now in
    subst (ScreenLacks key) c.screen-screen.ensures.value
    (rows_lack key c.requires.proper c.screen-screen.result.now.picture c.screens_are_sound.ensures.rows (λ k low high. c.loop-line.invariant k low (omega arith)))
