use Rattle.std.proofs.Common.{subst}
use Rattle.std.specs.Prelude.{OnErr, OnOk}
use Rattle.transcripts.specs.Told.{Tells, TellsFront}
use Rattle.screen_transcript.proofs.RowLemmas.{standing_is}
use Rattle.screen_transcript.proofs.transcribes.TranscriberTranscribes.tell_standing.Goals as goal

pub returns-clause-tells : goal.returns-clause-tells
returns-clause-tells g c profile before is =
    subst (λ rows. OnOk c.tell_rows.result (Tells g.W.Write.contents c.args.writer.now c.args.rows.now c.tell_rows.new.writer c.tell_rows.new.rows rows))
    (standing_is profile before c.args.self.now c.screen.result.now.picture is c.screen.ensures.value c.screen.ensures.safe) c.tell_rows.ensures.tells

pub returns-clause-front : goal.returns-clause-front
returns-clause-front g c profile before is =
    subst (λ rows. OnErr c.tell_rows.result (TellsFront g.W.Write.contents c.args.writer.now c.args.rows.now c.tell_rows.new.writer c.tell_rows.new.rows rows))
    (standing_is profile before c.args.self.now c.screen.result.now.picture is c.screen.ensures.value c.screen.ensures.safe) c.tell_rows.ensures.front
