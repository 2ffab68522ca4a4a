use Rattle.std.proofs.Common.{◌∙◌, sym}
use Rattle.screen_print.proofs.StartLemmas.{begins_nowhere}
use Rattle.screen_print.proofs.quiet.may_begin.Goals as goal

pub returns : goal.returns
returns c = λ quiet text is.
    begins_nowhere text c.args.start.now c.args.wide c.args.row.now c.cells_to_margin.result.now is c.cells_to_margin.ensures.cells c.cells_to_margin.ensures.text
    (c.may_start_in.ensures c.if-may_start_in.false) (sym c.may_start_at_end.ensures ∙ quiet)
