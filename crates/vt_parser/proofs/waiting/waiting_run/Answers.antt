use Rattle.std.proofs.Common.{Some, ap, sym, ◌∙◌}
use Rattle.vt_parser.proofs.Waits.{string_taken, text_taken, waits_by}
use Rattle.vt_parser.proofs.waiting.waiting_run.Goals as goal

pub returns-then-bytes-eq-ESC-clause-waits : goal.returns-then-bytes-eq-ESC-clause-waits
returns-then-bytes-eq-ESC-clause-waits c = λ pending view. waits_by _ c.args.state.now pending view (c.escape_end.ensures.holds c.args.state.now)

pub returns-then-is_text_begun-clause-waits : goal.returns-then-is_text_begun-clause-waits
returns-then-is_text_begun-clause-waits c = λ pending view.
    waits_by _ c.args.state.now pending view
    (text_taken c.args.state.now c.args.bytes.now c.text_end.result (sym c.is_text_begun.ensures ∙ c.if-is_text_begun.true) c.text_end.ensures.value)

pub returns-in-Text-clause-waits : goal.returns-in-Text-clause-waits
returns-in-Text-clause-waits c = λ pending view.
    waits_by _ _ pending (view ∙ ap Some c.in-Text.is) (string_taken c.args.bytes.now c.string_end.result c.string_end.ensures.value)
