use Rattle.std.proofs.lemmas.Bool.{not-true}
use Rattle.screen_print.proofs.QuietLemmas.{cells_stay}
use Rattle.screen_print.proofs.quiet.cells_stay.Goals as goal

pub returns : goal.returns
returns c = λ quiet.
    cells_stay c.args.text.now c.args.one.now c.args.other.now c.same_len-same.result c.saturating_sub-behind.result c.requires
    c.same_len-same.ensures.here c.same_len-same.ensures.there c.saturating_sub-behind.ensures c.same_len-same.ensures.same
    (c.may_begin_behind.ensures c.if-may_begin_behind.false) (c.may_begin_behind-2.ensures (not-true c.may_begin_behind-2.result quiet))
