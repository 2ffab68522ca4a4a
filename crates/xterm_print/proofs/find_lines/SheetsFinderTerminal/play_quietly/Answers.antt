use Rattle.xterm_print.specs.Moments.{reset_as}
use Rattle.xterm_term.specs.Term.{play}
use Rattle.xterm_print.proofs.PieceLemmas.{quiet_told}
use Rattle.xterm_print.proofs.find_lines.SheetsFinderTerminal.play_quietly.Goals as goal

pub returns-clause-quiet : goal.returns-clause-quiet
returns-clause-quiet c = λ size before shows rows places.
    quiet_told c.size_stays.ensures c.plays_in_parts.ensures size c.args.text.now before c.args.bytes.now c.quiet_piece-taken.result
    (c.quiet_piece-taken.ensures.quiet c.args.text.now (play (reset_as size) before) shows)
