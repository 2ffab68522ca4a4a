use Rattle.std.proofs.Common.{subst}
use Rattle.tape_check.specs.Tallying.{IsAt}
use Rattle.tape_check.proofs.TallyTokens.{one_taken}
use Rattle.tape_check.proofs.tally.Reader.read_alone.Goals as goal

pub returns : goal.returns
returns c t at =
    subst (IsAt c.read_syntax.new.self) (one_taken t c.args.byte c.in_ok-read_syntax.field-0 c.in_ok-read_syntax.ensures.some)
    (c.in_ok-read_syntax.ensures.taken t at)
