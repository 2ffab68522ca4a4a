use Rattle.std.proofs.Common.{ap, subst, ◌∙◌}
use Rattle.std.specs.Prelude.{OnErr, OnOk, min}
use Rattle.transcripts.specs.Told.{Tells, TellsFront}
use Rattle.xterm_transcript.proofs.RowLemmas.{most_rows}
use Rattle.xterm_transcript.proofs.rows.tell_first.Goals as goal

pub returns-clause-tells : goal.returns-clause-tells
returns-clause-tells g c =
    subst (λ rows. OnOk c.tell_rows.result (Tells g.W.Write.contents c.args.writer.now c.args.rows.now c.tell_rows.new.writer c.tell_rows.new.rows rows))
    (most_rows c.args.screen.now.picture c.args.count c.min.result c.cursor-sound.ensures.sound (c.min.ensures ∙ ap (min c.args.count) c.lines.ensures.value))
    c.tell_rows.ensures.tells

pub returns-clause-front : goal.returns-clause-front
returns-clause-front g c =
    subst (λ rows. OnErr c.tell_rows.result (TellsFront g.W.Write.contents c.args.writer.now c.args.rows.now c.tell_rows.new.writer c.tell_rows.new.rows rows))
    (most_rows c.args.screen.now.picture c.args.count c.min.result c.cursor-sound.ensures.sound (c.min.ensures ∙ ap (min c.args.count) c.lines.ensures.value))
    c.tell_rows.ensures.front
