use Rattle.xterm_print.proofs.BlankLemmas.{begins_blank}
use Rattle.xterm_print.proofs.find_lines.SheetsFinderTerminal.begins_blank.Goals as goal

pub returns : goal.returns
returns c = begins_blank
