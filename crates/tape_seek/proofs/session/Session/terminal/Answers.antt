use Rattle.std.proofs.Common.{◌-◌, subst}
use Rattle.tape_core.specs.Due.{first}
use Rattle.tape_seek.specs.State.{StateOf}
use Rattle.tape_seek.proofs.session.Session.terminal.Goals as goal

pub returns-clause-shows : goal.returns-clause-shows
returns-clause-shows g c =
    let working = c.self.inside.replay.working in
    subst (λ (s : StateOf g.row.T-Profile.Denot). g.T.Plays.shows s.profile working (first s.recording.chunks s.marks.head)) c.self.view_is
    c.self.invariant.replay.working.shows

pub returns-clause-told : goal.returns-clause-told
returns-clause-told g c =
    let working = c.self.inside.replay.working in
    subst (λ (s : StateOf g.row.T-Profile.Denot). g.T.Plays.told s.profile working (first s.recording.chunks (s.marks.head - 1))) c.self.view_is
    c.self.invariant.replay.working.told
