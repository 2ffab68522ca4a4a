use Rattle.std.proofs.Common.{length, ap, arith}
use Rattle.std.proofs.lemmas.List.Sums.{sum_by_more_le}
use Rattle.tape_core.proofs.recording.chunk_bytes.Goals as goal

pub overflow_add-bytes : goal.overflow_add-bytes
overflow_add-bytes c =
    let part = sum_by_more_le (λ x. length x.bytes) c.args.chunks.now c.loop-chunk.chunk-index c.chunk-item.result (omega arith) in
    omega (arith, part, ap (λ x. length x.bytes) c.chunk-item.is, c.loop-chunk.invariant, c.requires)
