use Rattle.std.proofs.Common.{length, ap, arith}
use Rattle.std.proofs.lemmas.List.Sums.{sum_by_more_le}
use Rattle.tape_check.proofs.notes.high_bytes.Goals as goal

pub overflow_add-high : goal.overflow_add-high
overflow_add-high c =
    let part = sum_by_more_le (λ x. length x.bytes) c.args.chunks.now c.loop-chunk.chunk-index c.chunk-item.result (omega arith) in
    omega (arith, part, ap (λ x. length x.bytes) c.chunk-item.is, c.loop-chunk.invariant.within, c.requires)
