use Rattle.std.proofs.Common.{take, sym, ap, subst, ◌∙◌}
use Rattle.std.proofs.lemmas.Bool.{false≢true}
use Rattle.vt_term.specs.Console.{Console}
use Rattle.vt_term.specs.Term.{play}
use Rattle.vt_term.specs.Seen.{Shows, IsTerminal, seen_of}
use Rattle.plays.specs.Sink.{after_sending, HasRoom}
use Rattle.plays.proofs.Sinks.{sends_nothing}
use Rattle.vt_term.proofs.Feeding.{room_for_front}
use Rattle.vt_term.proofs.Taken.{shows_next, told_terminal, left_terminal}
use Rattle.vt_term.proofs.terminal.Terminal.take_some.Goals as goal

pub invariant_of-self : goal.invariant_of-self
invariant_of-self c =
    let next = c.next.follows in
    subst (λ (s : Console). IsTerminal (record { console = s; state = next.lender-at-none; touched = c.obey.new.self.screen.touched })) (sym c.in_ok-obey.ensures.done)
    (told_terminal (seen_of c.self.inside.console c.self.inside.parser) (take c.next.result.0 c.args.bytes.now) _ _ next.lender-at-none _
    c.in-Some.is c.self.invariant c.next.ensures.told next.holds-at-none)

pub invariant_of-self-in_err-obey : goal.invariant_of-self-in_err-obey
invariant_of-self-in_err-obey c =
    let next = c.next.follows in
    subst (λ (s : Console). IsTerminal (record { console = s; state = next.lender-at-none; touched = c.obey.new.self.screen.touched })) (sym c.in_err-obey.ensures.err)
    (left_terminal (seen_of c.self.inside.console c.self.inside.parser) (take c.next.result.0 c.args.bytes.now) next.lender-at-none _ c.self.invariant next.holds-at-none)

pub invariant_of-self-in_default : goal.invariant_of-self-in_default
invariant_of-self-in_default c =
    let next = c.next.follows in
    left_terminal (seen_of c.self.inside.console c.self.inside.parser) (take c.next.result.0 c.args.bytes.now) next.lender-at-none _ c.self.invariant next.holds-at-none

pub returns-in_err-obey-clause-room : goal.returns-in_err-obey-clause-room
returns-in_err-obey-clause-room c x shows room =
    let after = shows_next _ _ x (take c.next.result.0 c.args.bytes.now) _ _ _ c.self.inside.console.screen.touched c.self.view_is c.in-Some.is shows c.next.ensures.told c.next.follows.holds-at-none in
    absurd (false≢true (c.in_err-obey.ensures.room (subst (HasRoom c.args.sink.now) after.1 (room_for_front x c.args.bytes.now c.next.result.0 c.args.sink.now room))))

pub returns-in_ok-obey-clause-shows : goal.returns-in_ok-obey-clause-shows
returns-in_ok-obey-clause-shows c x shows =
    let taken = take c.next.result.0 c.args.bytes.now in
    subst (λ (s : Console). Shows (record { console = s; state = c.next.follows.lender-at-none; touched = c.obey.new.self.screen.touched }) (play x taken)) (sym c.in_ok-obey.ensures.done)
    (shows_next _ _ x taken _ _ _ _ c.self.view_is c.in-Some.is shows c.next.ensures.told c.next.follows.holds-at-none).0

pub returns-in_ok-obey-clause-sent : goal.returns-in_ok-obey-clause-sent
returns-in_ok-obey-clause-sent c x shows =
    let after = shows_next _ _ x (take c.next.result.0 c.args.bytes.now) _ _ _ c.self.inside.console.screen.touched c.self.view_is c.in-Some.is shows c.next.ensures.told c.next.follows.holds-at-none in
    c.in_ok-obey.ensures.sent ∙ ap (after_sending c.args.sink.now) (sym after.1)

pub returns-in_default-clause-shows : goal.returns-in_default-clause-shows
returns-in_default-clause-shows c x shows =
    (shows_next _ _ x (take c.next.result.0 c.args.bytes.now) _ _ _ _ c.self.view_is c.in_default.is shows c.next.ensures.told c.next.follows.holds-at-none).0

pub returns-in_default-clause-sent : goal.returns-in_default-clause-sent
returns-in_default-clause-sent c x shows =
    let after = shows_next _ _ x (take c.next.result.0 c.args.bytes.now) _ _ _ c.self.inside.console.screen.touched c.self.view_is c.in_default.is shows c.next.ensures.told c.next.follows.holds-at-none in
    sym (sends_nothing c.args.sink.now) ∙ ap (after_sending c.args.sink.now) (sym after.1)
