use Rattle.std.proofs.Common.{Bool, ap, ap₂, subst, ◌∙◌}
use Rattle.held.specs.Held.{Wrote}
use Rattle.held.proofs.HeldLemmas.{wrote_both}
use Rattle.vt_screen.specs.Picture.{Picture}
use Rattle.vt_term.specs.declared.modes.Modes.{Modes}
use Rattle.screen_cast.specs.Drawn.{drawn_text}
use Rattle.screen_cast.specs.Json.{json}
use Rattle.screen_cast.proofs.CastLemmas.{drawn_is, shown}
use Rattle.screen_cast.proofs.drawn.put_drawn.Goals as goal

pub returns-clause-wrote : goal.returns-clause-wrote
returns-clause-wrote g c =
    let p = c.args.screen.now.picture in
    let lines = c.args.lines.now in
    let reversed = ap (λ (m : Modes). m.reverse_screen) c.modes-reversed.ensures in
    subst (Wrote g.W.Write.contents c.args.writer.now c.args.held.now.items c.put_cursor.new.writer c.put_cursor.new.held.items)
    (drawn_is p c.modes-reversed.result.reverse_screen lines ∙ ap₂ (λ (q : Picture) (r : Bool). json (drawn_text (shown q r) lines)) c.requires.shown reversed)
    (wrote_both c.put_cursor.ensures c.put_lines.ensures.wrote)
