use Rattle.screen_print.proofs.ByLineLemmas.{lost_nothing}
use Rattle.screen_print.proofs.lost.push_lost.Goals as goal

pub returns-then-is_bare : goal.returns-then-is_bare
returns-then-is_bare c =
    let lost = c.args.lost.now in
    lost_nothing c.args.sought.now.text.now c.args.pair.now.one.now c.args.pair.now.other.now c.args.line lost.next lost.places.items
    c.requires.low (c.is_bare.ensures c.if-is_bare.true) c.requires.before
