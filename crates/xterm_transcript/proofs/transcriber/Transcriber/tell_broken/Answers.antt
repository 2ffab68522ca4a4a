use Rattle.std.proofs.Common.{◌≡◌, true, cond, [], List, ap, subst, sym, ◌∙◌}
use Rattle.std.specs.Prelude.{ℕ}
use Rattle.characters.specs.Utf8.{replacement}
use Rattle.transcripts.specs.Told.{Tells}
use Rattle.xterm_transcript.specs.Leaving.{put_rows}
use Rattle.xterm_transcript.specs.Playing.{is_broken}
use Rattle.xterm_transcript.proofs.RepeatLemmas.{put_told}
use Rattle.xterm_transcript.proofs.transcriber.Transcriber.tell_broken.Goals as goal

pub returns-clause-tells : goal.returns-clause-tells
returns-clause-tells g c x is =
    let broken : is_broken x.term.character c.args.byte ≡ true =
    ap (λ (l : List ℕ). is_broken l c.args.byte) is.shows.character ∙ sym c.is_broken.ensures ∙ c.if-not-is_broken.false in
    let rows = put_told c.args.self.now.terminal x.term c.screen.result.now.picture c.put_leaves-leaves.result replacement is.shows c.screen.ensures.value
    c.put_leaves-leaves.ensures in
    subst (Tells g.W.Write.contents c.args.writer.now c.args.rows.now c.tell_first_if.new.writer c.tell_first_if.new.rows)
    (rows ∙ sym (ap (λ b. cond b (put_rows replacement x.term.console) []) broken)) c.in_ok-tell_first_if.ensures.tells
