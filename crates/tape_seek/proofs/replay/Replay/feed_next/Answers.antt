use Rattle.std.proofs.Common.{◌≡◌, ap, sym, ◌∙◌}
use Rattle.std.proofs.lemmas.Bool.{false≢true}
use Rattle.tape_seek.proofs.ReplayLemmas.{has_room, next_sent, next_stands}
use Rattle.tape_seek.proofs.replay.Replay.feed_next.Goals as goal

pub returns-clause-stands : goal.returns-clause-stands
returns-clause-stands g c = λ stands.
    let chunk = c.index-chunks-self.result in
    let is = sym c.index-chunks-self.is in
    let same : c.as_slice.result.now ≡ chunk.bytes = c.as_slice.ensures ∙ ap (λ x. x.bytes) is in
    next_stands g.T.Plays c.args.self.now.profile c.args.chunks.now c.args.self.now.head chunk c.requires.within is _ c.as_slice.result.now same
    (c.in_ok-feed.ensures.shows _ _ stands.shows) (c.in_ok-feed.ensures.told _ _ stands.shows)

pub returns-clause-sent : goal.returns-clause-sent
returns-clause-sent g c = λ stands place.
    let chunk = c.index-chunks-self.result in
    let is = sym c.index-chunks-self.is in
    let same : c.as_slice.result.now ≡ chunk.bytes = c.as_slice.ensures ∙ ap (λ x. x.bytes) is in
    next_sent g.T.Plays c.laws.ensures.parts c.args.chunks.now c.args.self.now _ chunk c.requires.within is c.as_slice.result.now same place
    (c.in_ok-feed.ensures.sent _ _ stands.shows)

pub returns-in_err-feed-clause-room : goal.returns-in_err-feed-clause-room
returns-in_err-feed-clause-room g c = λ stands place room.
    let chunk = c.index-chunks-self.result in
    let is = sym c.index-chunks-self.is in
    let same : c.as_slice.result.now ≡ chunk.bytes = c.as_slice.ensures ∙ ap (λ x. x.bytes) is in
    let fits = has_room g.T.Plays c.laws.ensures.parts c.args.chunks.now c.args.self.now chunk c.requires.within is c.as_slice.result.now same place room in
    absurd (false≢true (c.in_err-feed.ensures.room _ _ stands.shows fits))
