use Rattle.std.proofs.Common.{ap, ◌∙◌, subst}
use Rattle.vt_screen.specs.Picture.{Picture}
use Rattle.tape_core.specs.Devices.{Gave}
use Rattle.screen_print.specs.EscapedText.{first_pen, closing_text, lines_text, escaped_text}
use Rattle.screen_print.proofs.escaped_print.escaped.Goals as goal

pub returns-clause-puts : goal.returns-clause-puts
unfolding escaped_text
returns-clause-puts g c =
    let s = c.args.terminal.now.console in
    let opening = subst (Gave g.W.Write.contents c.args.writer.now c.give.new.self) (c.as_slice.ensures.value ∙ c.opening_text.ensures) c.give.ensures in
    let lines = subst (λ (p : Picture). Gave g.W.Write.contents c.give.new.self c.put_lines.new.writer (lines_text first_pen 1 p.rows)) c.screen.ensures.value c.put_lines.ensures in
    let closing = subst (Gave g.W.Write.contents c.put_lines.new.writer c.give-2.new.self) (c.as_slice-2.ensures.value ∙ c.closing_text.ensures ∙ ap (λ (p : Picture). closing_text p.line p.column) c.screen-2.ensures.value) c.give-2.ensures in
    c.settle.ensures.puts _ _ (c.gives_join.ensures.both _ _ _ _ _ closing (c.gives_join.ensures.both _ _ _ _ _ lines opening))
