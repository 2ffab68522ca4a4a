use Rattle.std.proofs.Common.{List, ℕ, subst}
use Rattle.held.specs.Held.{Wrote}
use Rattle.held.proofs.HeldLemmas.{gave_all, wrote_both}
use Rattle.screen_print.specs.Stills.{still_of}
use Rattle.screen_cast.specs.Cast.{event_line}
use Rattle.screen_cast.specs.Drawn.{drawn_text}
use Rattle.screen_cast.specs.Events.{output}
use Rattle.screen_cast.proofs.events.put_drawing.Goals as goal

pub returns-clause-gave : goal.returns-clause-gave
returns-clause-gave g c =
    let joins = c.gives_join.ensures in
    let text = event_line (output c.args.due (drawn_text (still_of c.args.after.now.console) c.args.lines.now)) in
    let all = wrote_both c.put_closing.ensures (wrote_both c.put_drawn.ensures.wrote c.put_opening.ensures) in
    let opened = subst (λ (x : List ℕ). Wrote g.W.Write.contents c.args.writer.now x c.put_closing.new.writer c.put_closing.new.held.items text) c.new-held.ensures all in
    gave_all joins.both joins.nothing _ _ _ _ _ opened c.let_out.ensures.gave
