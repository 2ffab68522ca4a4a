use Rattle.std.proofs.Common.{◌∙◌, ap, subst}
use Rattle.tape_core.specs.Devices.{Gave}
use Rattle.tape_core.specs.Due.{due_time}
use Rattle.tape_seek.specs.Moments.{up_to}
use Rattle.screen_print.specs.EachByte.{chunk_lines}
use Rattle.screen_print.proofs.each_byte.put_chunk_at.Goals as goal

pub returns-clause-gave : goal.returns-clause-gave
returns-clause-gave g c = λ profile h.
    let chunks = c.args.recording.now.chunks in
    let index = c.args.index in
    let x = up_to profile chunks index in
    subst (λ t. Gave g.W.Write.contents c.args.writer.now c.put_or_pass.new.writer t)
    (ap (λ d. chunk_lines c.args.text.now index d x c.bytes_of-bytes.result.now) c.due_time.ensures
    ∙ ap (chunk_lines c.args.text.now index (due_time chunks index) x) c.bytes_of-bytes.ensures)
    (c.put_or_pass.ensures.gave x h)
