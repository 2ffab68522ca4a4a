use Rattle.std.proofs.Common.{◌∷◌, false, true, not, ap, ap₂, ◌∙◌, subst}
use Rattle.std.specs.Prelude.{codes, Option}
use Rattle.tape_core.specs.Devices.{Gave}
use Rattle.vt_parser.specs.Syntax.{escape}
use Rattle.xterm_screen.specs.Picture.{Picture}
use Rattle.xterm_term.specs.declared.saved.Saved.{Saved}
use Rattle.xterm_escaped.specs.EscapedText.{rendition_set_text, text_where}
use Rattle.xterm_state.specs.StateText.{sheet_rows, sheet_text}
use Rattle.xterm_state.proofs.opening.put_sheets.Goals as goal

pub returns : goal.returns
returns g c =
    let both = c.gives_join.ensures.both in
    let picture = c.screen-screen.ensures.value in
    let main = subst (Gave g.W.Write.contents c.args.writer.now c.put_sheet.new.writer)
    (ap₂ (λ (o : Option Saved) (p : Picture). sheet_text o (sheet_rows false p)) c.main_saved.ensures picture) c.put_sheet.ensures in
    let rendition = subst (Gave g.W.Write.contents c.put_sheet.new.writer c.put_rendition.new.writer) (ap rendition_set_text c.plain_on.ensures) c.put_rendition.ensures in
    let alternate = subst (Gave g.W.Write.contents c.give.new.self c.put_sheet-2.new.writer)
    (ap₂ (λ (o : Option Saved) (p : Picture). sheet_text o (sheet_rows true p)) c.alternate_saved.ensures picture) c.put_sheet-2.ensures in
    let back = subst (λ b. Gave g.W.Write.contents c.put_sheet-2.new.writer c.put_where.new.writer (text_where (not b) (escape ∷ codes "[?1047l")))
    (c.is_alternate.ensures ∙ ap (λ (p : Picture). p.alternate) picture) c.put_where.ensures in
    both _ _ _ _ _ back (both _ _ _ _ _ alternate (both _ _ _ _ _ c.give.ensures (both _ _ _ _ _ rendition main)))
