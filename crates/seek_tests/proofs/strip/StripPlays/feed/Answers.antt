use Rattle.std.proofs.Common.{◌≡◌, ap, sym, subst, ◌∙◌}
use Rattle.plays.specs.Sink.{after_sending}
use Rattle.std.specs.Prelude.{OnOk}
use Rattle.seek_tests.specs.Strip.{Seen, answers, blank, play}
use Rattle.seek_tests.proofs.Parts.{plays_in_parts}
use Rattle.seek_tests.proofs.strip.StripPlays.feed.Goals as goal

pub returns-clause-shows : goal.returns-clause-shows
returns-clause-shows c = λ setup before shows.
    subst (λ (s : Seen). OnOk c.take_all.result (c.take_all.new.self ≡ s))
    (ap (λ (s : Seen). play s c.args.bytes.now) shows ∙ sym (plays_in_parts (blank setup.size) before c.args.bytes.now))
    c.take_all.ensures.play

pub returns-clause-sent : goal.returns-clause-sent
returns-clause-sent c = λ setup before shows.
    subst (λ (s : Seen). OnOk c.take_all.result (c.take_all.new.sink ≡ after_sending c.args.sink.now (answers s c.args.bytes.now)))
    shows c.take_all.ensures.sent
