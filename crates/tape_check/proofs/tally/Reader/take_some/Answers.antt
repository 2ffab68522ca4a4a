use Rattle.std.proofs.Common.{subst, sym}
use Rattle.tape_check.specs.Tallying.{IsAt}
use Rattle.tape_check.proofs.tally.Reader.take_some.Goals as goal

pub returns-then-plain-gt0-clause-taken : goal.returns-then-plain-gt0-clause-taken
returns-then-plain-gt0-clause-taken c t at = subst (IsAt c.args.self.now) (sym (c.plain_run-plain.ensures.idle t at)) at
