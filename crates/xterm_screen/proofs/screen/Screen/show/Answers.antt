use Rattle.std.proofs.Common.{sym, ap, ◌∙◌}
use Rattle.xterm_screen.specs.Puts.{line_found}
use Rattle.xterm_screen.proofs.Runs.{shown_put}
use Rattle.xterm_screen.proofs.screen.Screen.show.Goals as goal

pub returns-clause-picture : goal.returns-clause-picture
returns-clause-picture c =
    shown_put c.args.character c.args.wide c.args.rendition c.args.autowrap c.args.inserting c.args.self.now.picture c.find_line.new.self.picture c.put.new.self.picture
    (c.find_line.ensures.picture ∙ ap (line_found c.args.wide c.args.autowrap c.args.rendition.paper) c.take_wrap.ensures.picture)
    (sym c.overhangs.ensures.value ∙ c.if-overhangs.false) c.put.ensures.picture

pub returns-clause-told : goal.returns-clause-told
returns-clause-told c = λ before was. c.put.ensures.told before (c.find_line.ensures.told before (c.take_wrap.ensures.told before was))
