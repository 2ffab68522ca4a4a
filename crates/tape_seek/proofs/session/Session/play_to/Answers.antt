use Rattle.std.proofs.Common.{◌≡◌, refl, sym, ap, subst, ◌∙◌}
use Rattle.tape_core.specs.Due.{due, due_count, first}
use Rattle.tape_core.specs.Tape.{Tape}
use Rattle.tape_core.proofs.DueLemmas.{due_first}
use Rattle.tape_seek.specs.Edits.{edited_all}
use Rattle.tape_seek.specs.Marks.{fed_by}
use Rattle.tape_seek.specs.Played.{TellsBytes}
use Rattle.tape_seek.specs.State.{sought}
use Rattle.tape_seek.proofs.SessionLemmas.{reports_up_to, marked, shows_up_to}
use Rattle.tape_seek.proofs.session.Session.play_to.Goals as goal

pub returns : goal.returns
returns g c =
    let old = c.args.self.now in
    let moment = c.args.moment in
    let count = c.due_count-count.result in
    let chunks = c.chunks.result.now in
    let same = c.chunks.ensures.chunks ∙ ap (λ s. s.recording.chunks) c.self.view_is in
    let went = c.in_ok-seek.ensures in
    let plays = went.rest.profile ∙ ap (λ s. s.profile) c.self.view_is in
    let is_due : count ≡ due_count old.recording.chunks moment = c.due_count-count.ensures.count ∙ ap (λ s. due_count s.recording.chunks moment) c.self.view_is in
    let bytes : due old.recording.chunks moment ≡ first old.recording.chunks count = due_first old.recording.chunks moment ∙ ap (first old.recording.chunks) (sym is_due) in
    let tells : TellsBytes g.T.Plays old.profile c.seek.new.self.working c.sent_by.result.now (due old.recording.chunks moment) = record {
      shows = subst (g.T.Plays.shows old.profile c.seek.new.self.working) (sym bytes) (shows_up_to g.T.Plays old.profile chunks old.recording c.seek.new.self count plays same went.replay (ap (λ m. m.head) went.ok));
      sent = reports_up_to g.T.Plays old.profile c.seek.new.self.profile chunks old.recording c.sent_by.result.now count plays same (c.sent_by.ensures chunks went.replay) ∙ ap (g.T.Plays.sent old.profile) (sym bytes);
    } in (
      (
        refl,
        λ _. tt,
        (
          marked _ _ _ _ _ went.rest went.ok ∙ ap (sought count) c.self.view_is ∙ ap (λ n. sought n old) is_due,
          λ o before. ap (λ s. s.recording) c.self.view_is ∙ before ∙ sym (ap (λ s. edited_all o s.log) c.self.view_is),
        ),
      ),
      record {
        state = tt;
        headline = λ o is. subst (λ (tape : Tape). TellsBytes g.T.Plays old.profile c.seek.new.self.working c.sent_by.result.now (due tape.chunks moment)) is tells;
        shows = tells.shows;
        reports = tells.sent;
        count = is_due;
        fed = went.fed ∙ ap (λ s. fed_by s.every count s.marks) c.self.view_is ∙ ap (λ n. fed_by old.every n old.marks) is_due;
        room = λ _. refl;
      },
    )
