use Rattle.std.proofs.Common.{ap, subst, sym, ◌∙◌}
use Rattle.std.specs.Prelude.{OnOk}
use Rattle.transcripts.specs.Told.{Tells}
use Rattle.xterm_screen.specs.Picture.{Picture}
use Rattle.xterm_term.specs.Console.{Console}
use Rattle.xterm_transcript.specs.Rows.{first_rows, inked_rows}
use Rattle.xterm_transcript.proofs.rows.tell_leaving.Goals as goal

pub returns-in-FirstRows-clause-tells : goal.returns-in-FirstRows-clause-tells
returns-in-FirstRows-clause-tells g c x shows =
    rw c.in-FirstRows.is (subst (λ rows. OnOk c.tell_first.result (Tells g.W.Write.contents c.args.writer.now c.args.rows.now c.tell_first.new.writer c.tell_first.new.rows rows))
    (ap (λ (p : Picture). first_rows c.in-FirstRows.count p) (c.screen.ensures.value ∙ sym (ap (λ (s : Console). s.picture) shows.console))) c.tell_first.ensures.tells)

pub returns-in-InkedRows-clause-tells : goal.returns-in-InkedRows-clause-tells
returns-in-InkedRows-clause-tells g c x shows =
    rw c.in-InkedRows.is (subst (λ rows. OnOk c.tell_inked.result (Tells g.W.Write.contents c.args.writer.now c.args.rows.now c.tell_inked.new.writer c.tell_inked.new.rows rows))
    (ap inked_rows (c.screen-in-InkedRows.ensures.value ∙ sym (ap (λ (s : Console). s.picture) shows.console))) c.tell_inked.ensures.tells)

pub returns-in-Repeated-clause-tells : goal.returns-in-Repeated-clause-tells
returns-in-Repeated-clause-tells g c x shows = rw c.in-Repeated.is (c.tell_last_repeated.ensures.tells x shows)
