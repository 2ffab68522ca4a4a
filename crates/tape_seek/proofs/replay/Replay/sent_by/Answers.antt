use Rattle.std.proofs.Common.{◌≤◌, length, take, ap, sym, arith, ◌∙◌}
use Rattle.std.proofs.lemmas.List.{length-take-le}
use Rattle.tape_seek.proofs.ReplayLemmas.{sent_cut, sent_read, sent_within}
use Rattle.tape_seek.proofs.replay.Replay.sent_by.Goals as goal

pub slice_bounds-result-end : goal.slice_bounds-result-end
slice_bounds-result-end g c =
    let kept = c.requires.some.1.kept in
    let place = sent_read g.T.Plays c.requires.some.0 c.args.self.now c.args.count c.index.result.now kept c.requires.within c.index.ensures in
    let low : c.index.result.now ≤ length c.bytes.result.now = omega (arith, sent_within g.T.Plays c.laws.ensures.parts c.requires.some.0 c.args.self.now c.args.count c.index.result.now kept c.requires.within place, ap length c.bytes.ensures) in
    sym (length-take-le c.index.result.now c.bytes.result.now low)

pub returns : goal.returns
returns g c = λ chunks replay.
    let place = sent_read g.T.Plays chunks c.args.self.now c.args.count c.index.result.now replay.kept c.requires.within c.index.ensures in
    ap (take c.index.result.now) c.bytes.ensures ∙ sent_cut g.T.Plays c.laws.ensures.parts chunks c.args.self.now c.args.count c.index.result.now replay.kept c.requires.within place
