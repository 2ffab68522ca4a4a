use Rattle.std.proofs.Common.{◌≡◌, take, false, ap, ◌∙◌, arith}
use Rattle.xterm_screen.specs.Picture.{ScreenState}
use Rattle.xterm_screen.specs.Puts.{run_shown}
use Rattle.xterm_screen.proofs.Parts.{end_shown, within_shown}
use Rattle.xterm_screen.proofs.Screens.{lines_left}
use Rattle.xterm_screen.proofs.screen.Screen.show_part.Goals as goal

pub invariant_of-self : goal.invariant_of-self
invariant_of-self c =
    lines_left c.self.inside c.self.invariant c.put_run.new.self _ c.self.inside.columns c.args.autowrap c.put_run.ensures.rows c.put_run.ensures.columns c.put_run.ensures.lines
    (omega (arith, c.self.invariant.sound.columns_low)) (omega arith)

pub invariant_of-self-else-taken-room : goal.invariant_of-self-else-taken-room
invariant_of-self-else-taken-room c =
    lines_left c.self.inside c.self.invariant c.put_run.new.self _ _ c.self.inside.wrap c.put_run.ensures.rows c.put_run.ensures.columns c.put_run.ensures.lines
    (omega (arith, c.self.invariant.sound.column_low)) (omega (arith, c.self.invariant.sound.column_high))

pub returns-then-taken-room-clause-picture : goal.returns-then-taken-room-clause-picture
returns-then-taken-room-clause-picture c =
    let unwrapped : c.self.inside.wrap ≡ false = ap (λ (s : ScreenState). s.picture.wrap) c.self.view_is ∙ c.requires.wrap in
    end_shown c.self.inside c.self.invariant c.args.rendition c.args.autowrap c.args.characters.now c.min-taken.result (omega arith) c.put_run.new.self
    c.put_run.ensures.rows unwrapped (omega arith) (omega (arith, c.self.invariant.sound.column_high))
    ∙ ap (λ (s : ScreenState). run_shown (take c.min-taken.result c.args.characters.now) c.args.rendition c.args.autowrap false s.picture) c.self.view_is

pub returns-else-taken-room-clause-picture : goal.returns-else-taken-room-clause-picture
returns-else-taken-room-clause-picture c =
    let unwrapped : c.self.inside.wrap ≡ false = ap (λ (s : ScreenState). s.picture.wrap) c.self.view_is ∙ c.requires.wrap in
    within_shown c.self.inside c.self.invariant c.args.rendition c.args.autowrap c.args.characters.now c.min-taken.result (omega arith) c.put_run.new.self
    c.put_run.ensures.rows unwrapped (omega (arith, c.self.invariant.sound.column_high))
    ∙ ap (λ (s : ScreenState). run_shown (take c.min-taken.result c.args.characters.now) c.args.rendition c.args.autowrap false s.picture) c.self.view_is
