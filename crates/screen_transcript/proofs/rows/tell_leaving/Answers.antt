use Rattle.std.proofs.Common.{subst}
use Rattle.std.specs.Prelude.{OnErr, OnOk}
use Rattle.transcripts.specs.Told.{Tells, TellsFront}
use Rattle.screen_transcript.proofs.rows.tell_leaving.Goals as goal

pub returns-in-FirstRow-clause-tells : goal.returns-in-FirstRow-clause-tells
returns-in-FirstRow-clause-tells g c = rw c.in-FirstRow.is c.tell_row.ensures.tells

pub returns-in-InkedRows-clause-tells : goal.returns-in-InkedRows-clause-tells
returns-in-InkedRows-clause-tells g c =
    rw c.in-InkedRows.is (subst (λ rows. OnOk c.tell_rows.result (Tells g.W.Write.contents c.args.writer.now c.args.rows.now c.tell_rows.new.writer c.tell_rows.new.rows rows))
    c.inked_count.ensures.value c.tell_rows.ensures.tells)

pub returns-in-InkedRows-clause-front : goal.returns-in-InkedRows-clause-front
returns-in-InkedRows-clause-front g c =
    rw c.in-InkedRows.is (subst (λ rows. OnErr c.tell_rows.result (TellsFront g.W.Write.contents c.args.writer.now c.args.rows.now c.tell_rows.new.writer c.tell_rows.new.rows rows))
    c.inked_count.ensures.value c.tell_rows.ensures.front)
