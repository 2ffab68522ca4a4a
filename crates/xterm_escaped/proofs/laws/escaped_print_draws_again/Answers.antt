use Rattle.xterm_term.specs.Term.{Term, play, reset_term}
use Rattle.xterm_escaped.proofs.Cells.{LawsBelow}
use Rattle.xterm_escaped.proofs.DrawsAgain.{draws_again}
use Rattle.xterm_escaped.proofs.FittingTerms.{FitLaws, fit_played}
use Rattle.xterm_escaped.proofs.laws.escaped_print_draws_again.Goals as goal

pub returns : goal.returns
returns c = λ columns lines bytes size.
    let laws : LawsBelow = record {
      sequences = c.decimals_are_read.ensures.control;
      privates = c.decimals_are_read.ensures.private;
      graphic = c.graphic_is_shown.ensures;
    } in
    let fits : FitLaws = record { ascii = c.widths_are_small.ensures.ascii; most = c.widths_are_small.ensures.most; proper = c.commands_are_proper.ensures } in
    let x : Term = play (reset_term columns lines) bytes in
    let safe = c.stays_safe.ensures.played (reset_term columns lines) bytes (c.stays_safe.ensures.reset columns lines size) in
    draws_again laws fits.ascii x safe.sound (fit_played fits columns lines bytes)
