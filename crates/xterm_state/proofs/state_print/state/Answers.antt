use Rattle.std.proofs.Common.{ap, subst}
use Rattle.vt_parser.specs.declared.states.ParserState.{ParserState}
use Rattle.tape_core.specs.Devices.{Gave}
use Rattle.parser_state.specs.PendingText.{pending_text}
use Rattle.xterm_screen.specs.Picture.{Picture}
use Rattle.xterm_state.specs.StateText.{state_text, stops_text}
use Rattle.xterm_state.proofs.state_print.state.Goals as goal

pub returns-clause-puts : goal.returns-clause-puts
unfolding state_text
returns-clause-puts g c =
    let both = c.gives_join.ensures.both in
    let stops = subst (Gave g.W.Write.contents c.put_anew.new.writer c.put_stops.new.writer) (ap (λ (p : Picture). stops_text p.columns p.tabs) c.screen.ensures.value) c.put_stops.ensures in
    let pending = subst (Gave g.W.Write.contents c.put_closing.new.writer c.put_pending.new.writer) (ap (λ (s : ParserState). pending_text s) c.parser_state.ensures) c.put_pending.ensures in
    let character = subst (Gave g.W.Write.contents c.put_pending.new.writer c.put_begun.new.writer) c.character.ensures c.put_begun.ensures in
    c.settle.ensures.puts _ _
    (both _ _ _ _ _ character (both _ _ _ _ _ pending (both _ _ _ _ _ c.put_closing.ensures (both _ _ _ _ _ c.put_sheets.ensures (both _ _ _ _ _ stops c.put_anew.ensures)))))
