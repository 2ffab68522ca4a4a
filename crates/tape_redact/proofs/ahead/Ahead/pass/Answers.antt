use Rattle.std.proofs.Common.{arith}
use Rattle.tape_redact.proofs.AheadLemmas.{passed, tells_on}
use Rattle.tape_redact.proofs.ahead.Ahead.pass.Goals as goal

pub returns-clause-none : goal.returns-clause-none
returns-clause-none c stands tells k low high =
    passed c.args.self.now.bits c.args.at c.args.self.now.end k stands tells low (omega arith) (omega arith)

pub returns-clause-tells : goal.returns-clause-tells
returns-clause-tells c stands tells = tells_on c.args.self.now.bits c.args.at c.args.self.now.end c.min-gap.result stands tells
