use Rattle.screen_print.proofs.StillLemmas.{changed_cover}
use Rattle.screen_print.proofs.still.Still.lines_aside.Goals as goal

pub returns : goal.returns
returns c = changed_cover c.args.self.now.rows c.args.terminal.now.console.picture.rows c.lines_unlike.result.items c.lines_unlike.ensures

pub returns-then-has_risen : goal.returns-then-has_risen
returns-then-has_risen c = c.all_lines.ensures c.args.self.now.rows c.args.terminal.now.console.picture.rows
