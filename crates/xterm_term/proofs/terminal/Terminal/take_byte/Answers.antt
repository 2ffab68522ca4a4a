use Rattle.std.proofs.Common.{sym, ap, subst, ◌∙◌}
use Rattle.std.proofs.lemmas.Bool.{false≢true}
use Rattle.plays.specs.Sink.{after_sending, HasRoom, KeepsFront}
use Rattle.xterm_term.specs.Seen.{Seen, Shows, Told, seen_of}
use Rattle.plays.proofs.Sinks.{keeps_itself, keeps_after}
use Rattle.xterm_term.proofs.Told.{told_step, told_reply, sound_terminal}
use Rattle.xterm_term.proofs.terminal.Terminal.take_byte.Goals as goal

pub invariant_of-self : goal.invariant_of-self
invariant_of-self c =
    let x = c.self.invariant.term in
    sound_terminal _ _ _ (c.read_byte.ensures.sound x.0.sequence x.1.state)

pub invariant_of-self-2 : goal.invariant_of-self-2
invariant_of-self-2 c =
    let x = c.self.invariant.term in
    sound_terminal _ _ _ (c.read_byte.ensures.sound x.0.sequence x.1.state)

pub returns-clause-shows : goal.returns-clause-shows
returns-clause-shows c x shows =
    let seen : Seen = seen_of c.self.inside.console c.self.inside.parser c.self.inside.decoder in
    let shown : Shows seen x = subst (λ (t : Seen). Shows t x) (sym c.self.view_is) shows in
    told_step seen x c.args.byte _ _ _ shown (c.in_ok-read_byte.ensures.comes x.sequence shown.state)

pub returns-clause-sent : goal.returns-clause-sent
returns-clause-sent c x shows =
    let seen : Seen = seen_of c.self.inside.console c.self.inside.parser c.self.inside.decoder in
    let shown : Shows seen x = subst (λ (t : Seen). Shows t x) (sym c.self.view_is) shows in
    c.in_ok-read_byte.ensures.sent x.sequence shown.state ∙ ap (after_sending c.args.sink.now) (told_reply seen x c.args.byte shown)

pub returns-clause-front : goal.returns-clause-front
returns-clause-front c =
    let x = c.self.invariant.term in
    keeps_after c.args.sink.now c.read_byte.new.sink _ (c.in_ok-read_byte.ensures.sent x.0.sequence x.1.state)

pub returns-in_err-read_byte-clause-front : goal.returns-in_err-read_byte-clause-front
returns-in_err-read_byte-clause-front c = subst (KeepsFront c.args.sink.now) (sym c.in_err-read_byte.ensures.err_sink) (keeps_itself c.args.sink.now)

pub returns-in_err-read_byte-clause-room : goal.returns-in_err-read_byte-clause-room
returns-in_err-read_byte-clause-room c x shows room =
    let seen : Seen = seen_of c.self.inside.console c.self.inside.parser c.self.inside.decoder in
    let shown : Shows seen x = subst (λ (t : Seen). Shows t x) (sym c.self.view_is) shows in
    absurd (false≢true (c.in_err-read_byte.ensures.room x.sequence shown.state
    (subst (HasRoom c.args.sink.now) (sym (told_reply seen x c.args.byte shown)) room)))

pub returns-clause-told : goal.returns-clause-told
returns-clause-told c = λ before was. c.read_byte.ensures.told before (subst (λ (s : Seen). Told before s) (sym c.self.view_is) was)

pub returns-in_err-read_byte-clause-told : goal.returns-in_err-read_byte-clause-told
returns-in_err-read_byte-clause-told c = λ before was. c.read_byte.ensures.told before (subst (λ (s : Seen). Told before s) (sym c.self.view_is) was)
