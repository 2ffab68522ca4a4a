use Rattle.tape_cut.proofs.LimitLemmas.{only_limits, only_limits_excerpt}
use Rattle.tape_cut.proofs.laws.only_limits_refuse.Goals as goal

pub returns : goal.returns
returns c = record { cut = only_limits; excerpt = only_limits_excerpt }
