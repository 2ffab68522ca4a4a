use Rattle.std.proofs.Common.{sym}
use Rattle.tape_seek.specs.Edits.{edited}
use Rattle.tape_seek.proofs.EditLemmas.{all_stays, front_stays}
use Rattle.tape_seek.proofs.ReplayLemmas.{same_replay}
use Rattle.tape_seek.proofs.session.cut.Goals as goal

pub returns-in-Some-clause-replay : goal.returns-in-Some-clause-replay
returns-in-Some-clause-replay g c = λ tape replay sound.
    let edit = c.args.edit.now in
    c.cut.ensures.replay tape.chunks (edited tape edit).chunks replay
    (front_stays tape edit c.in-Some.first c.args.replay.now.frontier sound (sym c.in-Some.ensures) replay.kept.holds.within)

pub returns-in_default-clause-replay : goal.returns-in_default-clause-replay
returns-in_default-clause-replay g c = λ tape replay sound.
    let edit = c.args.edit.now in
    same_replay g.T.Plays tape.chunks (edited tape edit).chunks c.args.replay.now
    (all_stays tape edit c.args.replay.now.frontier sound (sym c.in_default.ensures) replay.kept.holds.within) replay
