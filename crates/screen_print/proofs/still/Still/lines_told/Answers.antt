use Rattle.screen_print.proofs.StillLemmas.{changed_cover}
use Rattle.screen_print.proofs.still.Still.lines_told.Goals as goal

pub returns : goal.returns
returns c = changed_cover c.args.self.now.rows c.args.terminal.now.console.picture.rows c.changed_lines.result.items c.changed_lines.ensures

pub returns-then-count-eq-LINES : goal.returns-then-count-eq-LINES
returns-then-count-eq-LINES c = c.all_lines.ensures c.args.self.now.rows c.args.terminal.now.console.picture.rows
