use Rattle.std.proofs.Common.{length, ap, subst, sym, arith}
use Rattle.vt_term.specs.Console.{IsSafe}
use Rattle.plays.specs.Sink.{Sink}
use Rattle.screen_print.proofs.ReplyLemmas.{on_ok_is, replies_are_short}
use Rattle.screen_print.proofs.chunk_bytes.step.Goals as goal

pub returns-clause-told : goal.returns-clause-told
returns-clause-told c =
    let term = c.screen-screen.ensures.proper.term in
    let x = term.0 in
    let shows = term.1 in
    let safe : IsSafe x.console = subst IsSafe (sym shows.console) c.screen-screen.ensures.proper.safe in
    let short = replies_are_short c.right_margins.ensures.high x c.args.byte safe in
    let bytes = ap (λ (s : Sink). length s.bytes) c.set_place.ensures in
    let place = ap (λ (s : Sink). s.place) c.set_place.ensures in
    on_ok_is c.feed_in_place-done.result (c.feed_in_place-done.ensures.room x shows (omega (arith, short, bytes, place, c.requires))) c.feed_in_place-done.ensures.told

pub returns-clause-shows : goal.returns-clause-shows
returns-clause-shows c = λ x shows.
    let safe : IsSafe x.console = subst IsSafe (sym shows.console) c.screen-screen.ensures.proper.safe in
    let short = replies_are_short c.right_margins.ensures.high x c.args.byte safe in
    let bytes = ap (λ (s : Sink). length s.bytes) c.set_place.ensures in
    let place = ap (λ (s : Sink). s.place) c.set_place.ensures in
    on_ok_is c.feed_in_place-done.result (c.feed_in_place-done.ensures.room x shows (omega (arith, short, bytes, place, c.requires))) (c.feed_in_place-done.ensures.shows x shows)
