use Rattle.std.proofs.Common.{ap, ◌∙◌, subst, sym, arith}
use Rattle.xterm_screen.specs.Picture.{ScreenState, Told}
use Rattle.xterm_screen.specs.View.{picture_of}
use Rattle.xterm_screen.proofs.Parts.{end_shown, part_wrapped, within_shown}
use Rattle.xterm_screen.proofs.Runs.{taken_unwrapped}
use Rattle.xterm_screen.proofs.Screens.{lines_left}
use Rattle.xterm_screen.proofs.screen.Screen.show_letters.Goals as goal

pub invariant_of-self : goal.invariant_of-self
invariant_of-self c =
    lines_left c.self.inside c.self.invariant c.put_letters.new.self _ c.self.inside.columns c.args.autowrap c.put_letters.ensures.rows c.put_letters.ensures.columns c.put_letters.ensures.lines
    (omega (arith, c.self.invariant.sound.columns_low)) (omega arith)

pub invariant_of-self-else-count-room : goal.invariant_of-self-else-count-room
invariant_of-self-else-count-room c =
    lines_left c.self.inside c.self.invariant c.put_letters.new.self _ _ c.self.inside.wrap c.put_letters.ensures.rows c.put_letters.ensures.columns c.put_letters.ensures.lines
    (omega (arith, c.self.invariant.sound.column_low)) (omega (arith, c.self.invariant.sound.column_high))

pub returns-then-count-room-clause-picture : goal.returns-then-count-room-clause-picture
returns-then-count-room-clause-picture c =
    let taken = ap (λ (s : ScreenState). s.picture) c.self.view_is ∙ c.take_wrap.ensures.picture in
    let unwrapped = taken_unwrapped c.args.rendition.paper c.args.self.now.picture (picture_of c.self.inside) taken in
    part_wrapped c.args.rendition c.args.autowrap c.args.inserting c.args.letters.now c.min-count.result c.args.self.now.picture _ _ (omega arith) (omega (arith, c.self.invariant.sound.column_high)) c.if-inserting.false taken
    (end_shown c.self.inside c.self.invariant c.args.rendition c.args.autowrap c.args.letters.now c.min-count.result (omega arith) c.put_letters.new.self
    c.put_letters.ensures.rows unwrapped (omega arith) (omega (arith, c.self.invariant.sound.column_high)))

pub returns-else-count-room-clause-picture : goal.returns-else-count-room-clause-picture
returns-else-count-room-clause-picture c =
    let taken = ap (λ (s : ScreenState). s.picture) c.self.view_is ∙ c.take_wrap.ensures.picture in
    let unwrapped = taken_unwrapped c.args.rendition.paper c.args.self.now.picture (picture_of c.self.inside) taken in
    part_wrapped c.args.rendition c.args.autowrap c.args.inserting c.args.letters.now c.min-count.result c.args.self.now.picture _ _ (omega arith) (omega (arith, c.self.invariant.sound.column_high)) c.if-inserting.false taken
    (within_shown c.self.inside c.self.invariant c.args.rendition c.args.autowrap c.args.letters.now c.min-count.result (omega arith) c.put_letters.new.self
    c.put_letters.ensures.rows unwrapped (omega (arith, c.self.invariant.sound.column_high)))

pub returns-then-count-room-clause-told : goal.returns-then-count-room-clause-told
returns-then-count-room-clause-told c = λ before was.
    c.put_letters.ensures.told before (subst (λ (s : ScreenState). Told before s) (sym c.self.view_is) (c.take_wrap.ensures.told before was))

pub returns-else-count-room-clause-told : goal.returns-else-count-room-clause-told
returns-else-count-room-clause-told c = λ before was.
    c.put_letters.ensures.told before (subst (λ (s : ScreenState). Told before s) (sym c.self.view_is) (c.take_wrap.ensures.told before was))
