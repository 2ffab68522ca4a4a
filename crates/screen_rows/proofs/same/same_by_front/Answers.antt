use Rattle.screen_rows.proofs.SameLemmas.{fronts_apart}
use Rattle.screen_rows.proofs.same.same_by_front.Goals as goal

pub returns-else-same_first : goal.returns-else-same_first
returns-else-same_first c =
    fronts_apart 16 c.args.one.now c.args.other.now c.same_first.result c.same_first.ensures.same c.if-same_first.false
