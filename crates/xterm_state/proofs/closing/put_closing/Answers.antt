use Rattle.std.proofs.Common.{◌∷◌, ap, ap₂, subst}
use Rattle.std.specs.Prelude.{codes}
use Rattle.tape_core.specs.Devices.{Gave}
use Rattle.vt_parser.specs.Syntax.{escape}
use Rattle.xterm_screen.specs.Picture.{Picture}
use Rattle.xterm_term.specs.declared.modes.Modes.{Modes}
use Rattle.xterm_escaped.specs.EscapedText.{text_where}
use Rattle.xterm_state.specs.StateText.{cursor_text, in_force_text, last_text, margins_text, modes_text}
use Rattle.xterm_state.proofs.closing.put_closing.Goals as goal

pub returns : goal.returns
returns g c =
    let both = c.gives_join.ensures.both in
    let margins = subst (Gave g.W.Write.contents c.args.writer.now c.put_margins.new.writer) (ap (λ (p : Picture). margins_text p.top p.bottom) c.screen.ensures.value) c.put_margins.ensures in
    let cursor = subst (Gave g.W.Write.contents c.put_margins.new.writer c.put_cursor.new.writer)
    (ap₂ (λ (m : Modes) (p : Picture). cursor_text m.origin p) c.modes-modes.ensures c.screen-2.ensures.value) c.put_cursor.ensures in
    let force = subst (Gave g.W.Write.contents c.put_cursor.new.writer c.put_in_force.new.writer) (ap₂ in_force_text c.rendition.ensures c.sets.ensures) c.put_in_force.ensures in
    let modes = subst (Gave g.W.Write.contents c.put_in_force.new.writer c.put_modes.new.writer) (ap modes_text c.modes-modes.ensures) c.put_modes.ensures in
    let last = subst (Gave g.W.Write.contents c.put_modes.new.writer c.put_last.new.writer) (ap (last_text c.args.terminal.now.console) c.last_character.ensures) c.put_last.ensures in
    let title = subst (λ b. Gave g.W.Write.contents c.put_last.new.writer c.put_where.new.writer (text_where b (escape ∷ codes "k"))) c.in_title.ensures c.put_where.ensures in
    both _ _ _ _ _ title (both _ _ _ _ _ last (both _ _ _ _ _ modes (both _ _ _ _ _ force (both _ _ _ _ _ cursor margins))))
