use Rattle.std.proofs.Common.{◌≤◌, ◌+◌, length, ap, arith}
use Rattle.std.proofs.lemmas.Bool.{false≢true}
use Rattle.tape_seek.specs.Kept.{sent_after}
use Rattle.tape_seek.proofs.ReplayLemmas.{fed_ahead, fed_within, sent_rises}
use Rattle.tape_seek.proofs.replay.Replay.step_on.Goals as goal

pub returns-in_err-feed_next-clause-room : goal.returns-in_err-feed_next-clause-room
returns-in_err-feed_next-clause-room g c = λ low.
    let chunks = c.args.chunks.now in
    let r = c.args.self.now in
    let replay = c.requires.playing.replay in
    let room : length (sent_after g.T.Plays r.profile chunks (r.head + 1)) ≤ length r.reports.bytes = omega (arith, sent_rises g.T.Plays c.laws.ensures.parts r.profile chunks (r.head + 1) r.frontier (omega arith), ap length replay.kept.reports) in
    absurd (false≢true (c.in_err-feed_next.ensures.room replay.working c.requires.playing.place room))

pub returns-in_ok-keep_working-clause-ok : goal.returns-in_ok-keep_working-clause-ok
returns-in_ok-keep_working-clause-ok g c =
    let fed = c.in_ok-feed_next.ensures in
    let playing = c.requires.playing in
    c.in_ok-keep_working.ensures.ok c.args.chunks.now
    (fed_ahead g.T.Plays c.args.chunks.now c.args.self.now c.feed_next.new.self playing c.requires.within fed.ok (fed.stands playing.replay.working) (fed.sent playing.replay.working playing.place) fed.front c.if-self.true)

pub returns-else-self-clause-ok : goal.returns-else-self-clause-ok
returns-else-self-clause-ok g c =
    let fed = c.in_ok-feed_next.ensures in
    let playing = c.requires.playing in
    fed_within g.T.Plays c.laws.ensures.parts c.args.chunks.now c.args.self.now c.feed_next.new.self playing fed.ok (fed.stands playing.replay.working) (fed.sent playing.replay.working playing.place) c.if-self.false
