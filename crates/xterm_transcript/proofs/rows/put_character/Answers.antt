use Rattle.std.proofs.Common.{subst, ◌∙◌}
use Rattle.transcripts.specs.Told.{PutsPart}
use Rattle.xterm_transcript.proofs.rows.put_character.Goals as goal

pub returns : goal.returns
returns g c =
    subst (PutsPart g.W.Write.contents c.args.writer.now c.args.rows.now c.put_part.new.writer c.put_part.new.self)
    (c.as_bytes.ensures.value ∙ c.encode_utf8.ensures.value) c.put_part.ensures
