use Rattle.xterm_print.specs.Moments.{reset_as}
use Rattle.xterm_term.specs.Term.{play}
use Rattle.xterm_print.proofs.PieceLemmas.{none_told}
use Rattle.xterm_print.proofs.find_lines.SheetsFinderTerminal.play_some.Goals as goal

pub returns-clause-between : goal.returns-clause-between
returns-clause-between c = λ size before shows none.
    none_told c.size_stays.ensures c.plays_in_parts.ensures size c.args.text.now before c.args.bytes.now c.piece-taken.result
    (c.piece-taken.ensures.between c.args.text.now (play (reset_as size) before) shows) none
