use Rattle.std.proofs.Common.{◌∙◌}
use Rattle.xterm_print.proofs.ShownLemmas.{rows_told}
use Rattle.xterm_print.proofs.find_lines.SheetsFinderTerminal.rows.Goals as goal

pub returns : goal.returns
returns c = λ size bytes h.
    c.in_ok-rows_read.ensures ∙ rows_told c.size_stays.ensures c.screen-screen.result.now.picture c.args.terminal.now size bytes c.screen-screen.ensures.value h
