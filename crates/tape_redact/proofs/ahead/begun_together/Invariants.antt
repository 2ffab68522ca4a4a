use Rattle.std.proofs.Common.{cond, take}
use Rattle.tape_redact.specs.Ahead.{HasLanes}
use Rattle.tape_redact.specs.Redacted.{begins_at}
use Rattle.tape_redact.proofs.ahead.begun_together.Given as goal

-- a lane is 1 where the text begins so far
abbrev pub invariant-loop-at : goal.invariant-loop-at
invariant-loop-at l = HasLanes l.begun (λ k. cond (begins_at (take l.at l.text) l.bytes k) 1 0)
