use Rattle.std.proofs.Common.{◌≡◌, ◌+◌, ◌<◌, ◌≤◌, ◌++◌, length, get_or, append_assoc, ap, ap₂, sym, ◌∙◌, subst, arith}
use Rattle.std.specs.List.{flat_map}
use Rattle.tape_core.specs.Devices.{Gave}
use Rattle.tape_core.specs.declared.chunk.Chunk.{Chunk}
use Rattle.output_cast.specs.Cast.{event_line}
use Rattle.output_cast.specs.Events.{event_of, left_text, read_behind}
use Rattle.output_cast.proofs.EventLemmas.{lines_all, lines_from, lines_left, lines_more}
use Rattle.output_cast.proofs.events.put_events.Goals as goal

pub loop-index-preserved : goal.loop-index-preserved
loop-index-preserved g c =
    let before = c.loop-index.invariant in
    let chunks = c.args.recording.now.chunks in
    let n = c.loop-index.index in
    let pending = c.loop-index.decoder in
    let chunk = c.index-chunks-index.result in
    let same = c.chunks-chunks.ensures.chunks in
    let below : n < length chunks = omega (arith, c.loop-index-test.true, ap length same) in
    let is : get_or chunks n chunk ≡ chunk = sym (c.index-chunks-index.is ∙ ap (λ list. get_or list n chunk) same) in
    let bytes : c.as_slice.result.now ≡ chunk.bytes = c.as_slice.ensures ∙ ap (λ (it : Chunk). it.bytes) (sym c.index-chunks-index.is) in
    let here = flat_map event_line (event_of c.due_time-moment.result (read_behind pending c.as_slice.result.now).characters) in
    let lines : here ++ lines_from chunks (n + 1) c.put_chunk.new.decoder ≡ lines_from chunks n pending =
    ap₂ (λ t p. t ++ lines_from chunks (n + 1) p)
    (ap₂ (λ m b. flat_map event_line (event_of m (read_behind pending b).characters)) c.due_time-moment.ensures bytes)
    (c.put_chunk.ensures.pending ∙ ap (λ b. (read_behind pending b).pending) bytes)
    ∙ sym (lines_more chunks n chunk pending below is) in (
      before.0 ++ here,
      c.gives_join.ensures.both _ _ _ _ _ c.put_chunk.ensures.gave before.1,
      append_assoc before.0 here (lines_from chunks (n + 1) c.put_chunk.new.decoder) ∙ ap (λ t. before.0 ++ t) lines ∙ before.2,
    )

pub returns : goal.returns
returns g c =
    let before = c.loop-index.invariant in
    let chunks = c.args.recording.now.chunks in
    let pending = c.loop-index.decoder in
    let past : length chunks ≤ c.loop-index.index = omega (arith, c.loop-index-test.false, ap length c.chunks-chunks.ensures.chunks) in
    subst (Gave g.W.Write.contents c.args.writer.now c.put_left.new.writer)
    (ap (λ t. before.0 ++ t)
    (ap (λ m. flat_map event_line (event_of m (left_text pending))) c.length.ensures
    ∙ sym (lines_left chunks c.loop-index.index pending past))
    ∙ before.2 ∙ lines_all chunks)
    (c.gives_join.ensures.both _ _ _ _ _ c.put_left.ensures before.1)
