use Rattle.std.proofs.Common.{sym, subst, arith}
use Rattle.tape_seek.specs.Kept.{IsReplay}
use Rattle.tape_seek.proofs.ReplayLemmas.{back_replay, holds_less, placed, sent_read, sent_within}
use Rattle.tape_seek.proofs.replay.Replay.start.Goals as goal
use Rattle.tape_seek.proofs.replay.Replay.start.Goals.{then-self-count, else-self-count+else-self-near}

pub set_place-requires : goal.set_place-requires
set_place-requires g c =
    let chunks = c.requires.0 in
    let replay : IsReplay g.T.Plays chunks c.if-self-count.self = elim c.if-self-count.branch [
      | then-self-count w ↦
          let kept = c.requires.1.kept in
          let holds = holds_less g.T.Plays c.laws.ensures.parts chunks c.min-near.result c.args.self.now.frontier c.args.self.now (omega (arith, c.min-near.ensures)) kept.holds in
          subst (IsReplay g.T.Plays chunks) (sym w.self-is)
          (back_replay g.T.Plays chunks c.args.self.now w.go_back.new.self c.min-near.result kept (omega (arith, c.min-near.ensures)) w.go_back.ensures.rest (w.go_back.ensures.working chunks holds))
      | else-self-count+else-self-near w ↦ subst (IsReplay g.T.Plays chunks) (sym w.self-is) c.requires.1
    ] in
    let place = sent_read g.T.Plays chunks c.if-self-count.self c.if-self-count.self.head c.index.result.now replay.kept replay.behind c.index.ensures in
    sent_within g.T.Plays c.laws.ensures.parts chunks c.if-self-count.self c.if-self-count.self.head c.index.result.now replay.kept replay.behind place

pub returns-clause-playing : goal.returns-clause-playing
returns-clause-playing g c = λ chunks before.
    let replay : IsReplay g.T.Plays chunks c.if-self-count.self = elim c.if-self-count.branch [
      | then-self-count w ↦
          let kept = before.kept in
          let holds = holds_less g.T.Plays c.laws.ensures.parts chunks c.min-near.result c.args.self.now.frontier c.args.self.now (omega (arith, c.min-near.ensures)) kept.holds in
          subst (IsReplay g.T.Plays chunks) (sym w.self-is)
          (back_replay g.T.Plays chunks c.args.self.now w.go_back.new.self c.min-near.result kept (omega (arith, c.min-near.ensures)) w.go_back.ensures.rest (w.go_back.ensures.working chunks holds))
      | else-self-count+else-self-near w ↦ subst (IsReplay g.T.Plays chunks) (sym w.self-is) before
    ] in
    let place = sent_read g.T.Plays chunks c.if-self-count.self c.if-self-count.self.head c.index.result.now replay.kept replay.behind c.index.ensures in
    placed g.T.Plays chunks c.if-self-count.self c.set_place.new.self c.index.result.now replay place c.set_place.ensures
