use Rattle.std.proofs.Common.{◌∷◌, [], ap, ap₂, ◌∙◌, subst, not}
use Rattle.tape_core.specs.Devices.{Gave}
use Rattle.vt_parser.specs.Syntax.{escape}
use Rattle.xterm_term.specs.declared.modes.Modes.{Modes}
use Rattle.xterm_screen.specs.Picture.{Picture}
use Rattle.xterm_escaped.specs.EscapedText.{closing_text, placed_text, text_where}
use Rattle.xterm_escaped.proofs.escaped_print.put_closing.Goals as goal

pub returns : goal.returns
unfolding closing_text
returns g c =
    let shown = subst (λ (m : Modes). Gave g.W.Write.contents c.give.new.self c.put_where.new.writer (text_where (not m.cursor_shown) (escape ∷ 91 ∷ 63 ∷ 50 ∷ 53 ∷ 108 ∷ []))) c.modes.ensures c.put_where.ensures in
    let line = c.cursor-line.ensures.line ∙ ap (λ (p : Picture). p.line) c.screen.ensures.value in
    let column = c.cursor-line.ensures.column ∙ ap (λ (p : Picture). p.column) c.screen.ensures.value in
    let place = subst (Gave g.W.Write.contents c.put_where.new.writer c.put_place.new.writer) (ap₂ placed_text line column) c.put_place.ensures in
    c.gives_join.ensures.both _ _ _ _ _ place (c.gives_join.ensures.both _ _ _ _ _ shown c.give.ensures)
