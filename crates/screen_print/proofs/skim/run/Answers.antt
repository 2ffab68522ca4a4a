use Rattle.std.proofs.Common.{ap, arith, length}
use Rattle.plays.specs.Sink.{Sink}
use Rattle.screen_print.proofs.ReplyLemmas.{on_ok_is}
use Rattle.screen_print.proofs.skim.run.Goals as goal

pub returns-clause-shows : goal.returns-clause-shows
returns-clause-shows c = λ x shows.
    let place = ap (λ (s : Sink). s.place) c.set_place.ensures in
    let few = ap length (c.requires x shows) in
    on_ok_is c.feed_in_place-done.result (c.feed_in_place-done.ensures.room x shows (omega (arith, few, place))) (c.feed_in_place-done.ensures.shows x shows)
