use Rattle.std.proofs.Common.{ap, arith}
use Rattle.tape_core.proofs.recording.due_times.Goals as goal

pub overflow_add-due : goal.overflow_add-due
overflow_add-due c =
    let small = c.requires.delays c.loop-chunk.chunk-index c.chunk-item.result (omega arith) in
    omega (arith, small, ap (λ x. x.delay) c.chunk-item.is, c.loop-chunk.invariant.small, c.requires.few)
