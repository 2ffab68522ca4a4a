use Rattle.xterm_escaped.proofs.Cells.{LawsBelow}
use Rattle.xterm_escaped.proofs.FittingTerms.{FitLaws}
use Rattle.xterm_state.proofs.SizeLemmas.{is_short}
use Rattle.xterm_state.proofs.laws.state_text_is_short.Goals as goal

pub returns : goal.returns
returns c =
    let laws : LawsBelow = record {
      sequences = c.decimals_are_read.ensures.control;
      privates = c.decimals_are_read.ensures.private;
      graphic = c.graphic_is_shown.ensures;
    } in
    let fits : FitLaws = record { ascii = c.widths_are_small.ensures.ascii; most = c.widths_are_small.ensures.most; proper = c.commands_are_proper.ensures } in
    is_short laws fits c.stays_safe.ensures.played c.stays_safe.ensures.reset
