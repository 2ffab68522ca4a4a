use Rattle.std.proofs.Common.{◌∙◌, ap}
use Rattle.std.proofs.lemmas.Option.{IfSome_then}
use Rattle.standings.specs.Standing.{standing}
use Rattle.xterm_print.specs.Moments.{reset_as}
use Rattle.xterm_term.specs.Term.{play}
use Rattle.xterm_print.proofs.PieceLemmas.{foretold_told, start_is}
use Rattle.xterm_print.proofs.find_lines.SheetsFinderTerminal.foretells.Goals as goal

pub returns-clause-foretold : goal.returns-clause-foretold
returns-clause-foretold c = λ size before shows rows places.
    let start = start_is c.size_stays.ensures c.plays_in_parts.ensures size before in
    IfSome_then c.foretold.result
    (c.foretold.ensures.foretold (play (reset_as size) before) shows (rows ∙ start) (places ∙ ap (standing c.args.text.now) start))
    (λ foretold is. foretold_told c.size_stays.ensures c.plays_in_parts.ensures size c.args.text.now before c.args.bytes.now foretold c.foretold.new.letters.items is)
