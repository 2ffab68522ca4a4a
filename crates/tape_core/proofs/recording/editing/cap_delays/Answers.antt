use Rattle.std.proofs.Common.{◌<◌, length, get_or, arith}
use Rattle.std.proofs.lemmas.List.{get_or_default}
use Rattle.std.proofs.lemmas.List.Edits.{map_over_more}
use Rattle.tape_core.specs.Edited.{capped_chunk}
use Rattle.tape_core.proofs.recording.editing.cap_delays.Goals as goal

pub loop-chunk-preserved : goal.loop-chunk-preserved
loop-chunk-preserved c =
    let chunks = c.loop-chunk.chunks in
    let at = c.loop-chunk.chunk-index in
    let item = get_or chunks at c.chunk-item.result in
    let within : at < length chunks = omega arith in
    rw c.min-chunk.ensures (map_over_more (capped_chunk c.args.max) c.args.chunks.now chunks at item (omega arith) c.loop-chunk.invariant (get_or_default chunks at c.chunk-item.result item within))
