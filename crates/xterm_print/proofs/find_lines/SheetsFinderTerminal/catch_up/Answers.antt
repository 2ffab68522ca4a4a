use Rattle.xterm_print.specs.ChangeLines.{rows_by}
use Rattle.xterm_print.proofs.ShownLemmas.{caught_rows, rows_sized, screen_told}
use Rattle.xterm_print.proofs.find_lines.SheetsFinderTerminal.catch_up.Goals as goal

pub returns-clause-rows : goal.returns-clause-rows
returns-clause-rows c = λ size before after shows told was.
    let s = c.screen-screen.result.now in
    let terminal = c.args.terminal.now in
    let value = c.screen-screen.ensures.value in
    let here = screen_told s terminal (rows_by size before) value c.screen-screen.ensures.touched told in
    let long = rows_sized c.size_stays.ensures c.stays_safe.ensures.reset c.stays_safe.ensures.played s.picture terminal size before after value c.screen-screen.ensures.proper shows in
    caught_rows c.size_stays.ensures s.picture terminal size before after value shows c.args.rows.now.items c.read_touched.new.rows.items was
    (c.in_ok-read_touched.ensures.rows (rows_by size before) here long)
