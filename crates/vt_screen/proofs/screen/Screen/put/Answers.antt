use Rattle.std.proofs.Common.{sym, ap, subst, ◌∙◌}
use Rattle.vt_screen.specs.Picture.{Sound, right_margin}
use Rattle.vt_screen.specs.Slots.{ScreenState}
use Rattle.vt_screen.specs.View.{picture_of, state_of}
use Rattle.vt_screen.proofs.Answers.{rows_are, put_there, put_on}
use Rattle.vt_screen.proofs.Soundness.{sound_put}
use Rattle.vt_screen.proofs.Told.{row_told}
use Rattle.vt_screen.proofs.screen.Screen.put.Goals as goal

pub invariant_of-self : goal.invariant_of-self
invariant_of-self c =
    let p = picture_of c.self.inside in
    let margin = c.margin-margin.ensures.value ∙ ap (λ (s : ScreenState). right_margin s.picture s.picture.line) (sym c.self.view_is) in
    subst Sound (sym (rows_are _ _ c.write.ensures.rows ∙ put_there p c.args.cell c.args.autowrap (c.if-self-margin.true ∙ margin)))
    (sound_put p c.self.invariant c.args.cell c.args.autowrap c.requires)

pub invariant_of-self-else-self-margin : goal.invariant_of-self-else-self-margin
invariant_of-self-else-self-margin c =
    let p = picture_of c.self.inside in
    let margin = c.margin-margin.ensures.value ∙ ap (λ (s : ScreenState). right_margin s.picture s.picture.line) (sym c.self.view_is) in
    subst Sound (sym (rows_are _ _ c.write.ensures.rows ∙ put_on p c.args.cell c.args.autowrap (λ e. c.if-self-margin.false (e ∙ sym margin))))
    (sound_put p c.self.invariant c.args.cell c.args.autowrap c.requires)

pub returns-then-self-margin-clause-told : goal.returns-then-self-margin-clause-told
returns-then-self-margin-clause-told c = row_told (state_of c.self.inside) c.args.self.now _ _ c.self.view_is c.self.inside.line _ c.touch_line.ensures c.write.ensures.rows

pub returns-else-self-margin-clause-told : goal.returns-else-self-margin-clause-told
returns-else-self-margin-clause-told c = row_told (state_of c.self.inside) c.args.self.now _ _ c.self.view_is c.self.inside.line _ c.touch_line.ensures c.write.ensures.rows
