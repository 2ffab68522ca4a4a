use Rattle.std.proofs.Common.{ℕ, ◌∙◌, ap, sym}
use Rattle.std.specs.Prelude.{◌==◌}
use Rattle.vt_screen.specs.Erasures.{erased_whole}
use Rattle.vt_screen.specs.Picture.{right_margin}
use Rattle.vt_screen.specs.Slots.{ScreenState}
use Rattle.vt_screen.specs.View.{picture_of}
use Rattle.vt_screen.proofs.Erased.{whole_to_the_end, whole_from_the_start}
use Rattle.vt_screen.proofs.screen.Screen.erases_line.Goals as goal

pub returns-in-0 : goal.returns-in-0
returns-in-0 c =
    whole_to_the_end c.args.part (picture_of c.self.inside) c.self.invariant c.in-0.is
    ∙ ap (λ (s : ScreenState). erased_whole c.args.part s.picture s.picture.line) c.self.view_is

pub returns-in-1 : goal.returns-in-1
returns-in-1 c =
    ap (λ (n : ℕ). c.self.inside.column == n) (c.margin.ensures.value ∙ ap (λ (s : ScreenState). right_margin s.picture s.picture.line) (sym c.self.view_is))
    ∙ whole_from_the_start c.args.part (picture_of c.self.inside) c.self.invariant c.in-1.is
    ∙ ap (λ (s : ScreenState). erased_whole c.args.part s.picture s.picture.line) c.self.view_is
