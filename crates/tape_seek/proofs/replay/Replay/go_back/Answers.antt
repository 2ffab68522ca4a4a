use Rattle.tape_core.specs.Due.{first}
use Rattle.tape_seek.specs.Kept.{StandsAt}
use Rattle.tape_seek.specs.Marks.{multiple_below}
use Rattle.tape_seek.proofs.ReplayLemmas.{working_reset, working_stored}
use Rattle.tape_seek.proofs.replay.Replay.go_back.Goals as goal
use Rattle.tape_seek.proofs.replay.Replay.go_back.Goals.{then-terminals-eq0, else-terminals-eq0}

pub returns-clause-working : goal.returns-clause-working
returns-clause-working g c = λ chunks holds.
    elim c.if-terminals-eq0.branch [
      | then-terminals-eq0 w ↦
          rw w.self-is (working_reset g.T.Plays c.laws.ensures.told c.args.self.now.profile chunks c.args.self.now.every c.args.count _ w.if-terminals-eq0.true (w.clear.ensures c.requires.fits))
      | else-terminals-eq0 w ↦
          let keeps : g.T.Plays.keeps c.args.self.now.profile w.deref.result.now (first chunks (multiple_below c.args.self.now.every c.args.count)) =
          rw w.deref.ensures (working_stored g.T.Plays chunks c.args.count c.args.self.now w.index.result.now w.if-terminals-eq0.false holds w.index.ensures) in
          let stands : StandsAt g.T.Plays c.args.self.now.profile w.unpack.new.self chunks (multiple_below c.args.self.now.every c.args.count) = record {
            shows = w.unpack.ensures.shows _ _ c.requires.fits keeps;
            told = w.unpack.ensures.told _ _ _ c.requires.fits keeps;
          } in
          rw w.self-is stands
    ]
