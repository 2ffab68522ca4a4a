use Rattle.std.proofs.Common.{arith}
use Rattle.screen_print.proofs.moved.Moved.none.Goals as goal

pub returns-clause-lines : goal.returns-clause-lines
returns-clause-lines c = λ one other. record { low = omega arith; high = omega arith; down = omega arith; last = omega arith; rows = λ line low high. absurd (omega arith) }
