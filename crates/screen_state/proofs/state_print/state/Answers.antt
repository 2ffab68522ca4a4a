use Rattle.std.proofs.Common.{◌∙◌, subst}
use Rattle.vt_screen.specs.Picture.{Picture}
use Rattle.vt_parser.specs.declared.states.ParserState.{ParserState}
use Rattle.tape_core.specs.Devices.{Gave}
use Rattle.screen_print.specs.EscapedText.{first_pen, lines_text}
use Rattle.parser_state.specs.PendingText.{pending_text}
use Rattle.screen_state.specs.StateText.{state_text}
use Rattle.screen_state.proofs.state_print.state.Goals as goal

pub returns-clause-puts : goal.returns-clause-puts
unfolding state_text
returns-clause-puts g c =
    let opening = subst (Gave g.W.Write.contents c.args.writer.now c.give.new.self) (c.as_slice.ensures.value ∙ c.opening_text.ensures) c.give.ensures in
    let lines = subst (λ (p : Picture). Gave g.W.Write.contents c.give.new.self c.put_lines.new.writer (lines_text first_pen 1 p.rows)) c.screen.ensures.value c.put_lines.ensures in
    let closing = subst (Gave g.W.Write.contents c.put_lines.new.writer c.give-2.new.self) (c.as_slice-2.ensures.value ∙ c.closing_text.ensures) c.give-2.ensures in
    let pending = subst (λ (s : ParserState). Gave g.W.Write.contents c.give-2.new.self c.put_pending.new.writer (pending_text s)) c.parser_state.ensures c.put_pending.ensures in
    let both = c.gives_join.ensures.both in
    c.settle.ensures.puts _ _ (both _ _ _ _ _ pending (both _ _ _ _ _ closing (both _ _ _ _ _ lines opening)))
