use Rattle.std.proofs.Common.{[], take, refl, sym, ap, ap₂, subst, ◌∙◌}
use Rattle.std.specs.Prelude.{Bool}
use Rattle.std.proofs.lemmas.Bool.{false≢true}
use Rattle.plays.specs.Sink.{after_sending, HasRoom}
use Rattle.xterm_term.specs.Console.{Console}
use Rattle.xterm_term.specs.Term.{forgotten_if}
use Rattle.xterm_term.specs.Reading.{is_ground_state}
use Rattle.xterm_term.specs.Seen.{Seen, Told, seen_of}
use Rattle.xterm_term.proofs.Feeding.{room_for_front}
use Rattle.xterm_term.proofs.Taken.{goes_front, shows_next, next_terminal, next_size, left_terminal}
use Rattle.xterm_term.proofs.terminal.Terminal.take_sequence.Goals as goal

pub invariant_of-self : goal.invariant_of-self
invariant_of-self c =
    let before : Seen = seen_of c.self.inside.console c.self.inside.parser c.self.inside.decoder in
    left_terminal c.laws_below.ensures before (take c.next.result.0 c.args.bytes.now) _ _ c.self.invariant c.in_err-obey_token_if.ensures.err
    c.next.follows.holds-at-none

pub returns-in_err-obey_token_if-clause-room : goal.returns-in_err-obey_token_if-clause-room
returns-in_err-obey_token_if-clause-room c x shows room =
    let before : Seen = seen_of c.self.inside.console c.self.inside.parser c.self.inside.decoder in
    let n = c.next.result.0 in
    let after = shows_next c.laws_below.ensures {origins = []} before c.args.self.now x (take n c.args.bytes.now) c.next.result.1 _ _ c.self.view_is shows
    c.requires.title c.requires.character (goes_front _ c.args.bytes.now n c.next.ensures.some c.requires.goes) c.next.ensures.told c.next.follows.holds-at-none refl in
    absurd (false≢true (c.in_err-obey_token_if.ensures.room (subst (HasRoom c.args.sink.now) after.1 (room_for_front x c.args.bytes.now n c.args.sink.now room))))

pub invariant_of-self-2 : goal.invariant_of-self-2
invariant_of-self-2 c =
    let before : Seen = seen_of c.self.inside.console c.self.inside.parser c.self.inside.decoder in
    let n = c.next.result.0 in
    let console = c.forget_if.ensures.done
    ∙ ap₂ (λ (b : Bool) (s : Console). forgotten_if b s) (c.is_ground_state.ensures ∙ ap is_ground_state c.state.ensures.value) c.in_ok-obey_token_if.ensures.done in
    next_terminal c.laws_below.ensures before c.args.self.now (take n c.args.bytes.now) c.next.result.1 c.next.follows.lender-at-none _ c.self.view_is c.self.invariant
    c.requires.title c.requires.character (goes_front _ c.args.bytes.now n c.next.ensures.some c.requires.goes) c.next.ensures.told c.next.follows.holds-at-none console

pub returns-clause-shows : goal.returns-clause-shows
returns-clause-shows c x shows =
    let before : Seen = seen_of c.self.inside.console c.self.inside.parser c.self.inside.decoder in
    let n = c.next.result.0 in
    let console = c.forget_if.ensures.done
    ∙ ap₂ (λ (b : Bool) (s : Console). forgotten_if b s) (c.is_ground_state.ensures ∙ ap is_ground_state c.state.ensures.value) c.in_ok-obey_token_if.ensures.done in
    (shows_next c.laws_below.ensures before c.args.self.now x (take n c.args.bytes.now) c.next.result.1 c.next.follows.lender-at-none _ c.self.view_is shows
    c.requires.title c.requires.character (goes_front _ c.args.bytes.now n c.next.ensures.some c.requires.goes) c.next.ensures.told c.next.follows.holds-at-none console).0

pub returns-clause-sent : goal.returns-clause-sent
returns-clause-sent c x shows =
    let before : Seen = seen_of c.self.inside.console c.self.inside.parser c.self.inside.decoder in
    let n = c.next.result.0 in
    let after = shows_next c.laws_below.ensures {origins = []} before c.args.self.now x (take n c.args.bytes.now) c.next.result.1 c.next.follows.lender-at-none _ c.self.view_is shows
    c.requires.title c.requires.character (goes_front _ c.args.bytes.now n c.next.ensures.some c.requires.goes) c.next.ensures.told c.next.follows.holds-at-none refl in
    c.in_ok-obey_token_if.ensures.sent ∙ ap (after_sending c.args.sink.now) (sym after.1)

pub returns-clause-size : goal.returns-clause-size
returns-clause-size c =
    let before : Seen = seen_of c.self.inside.console c.self.inside.parser c.self.inside.decoder in
    let n = c.next.result.0 in
    let console = c.forget_if.ensures.done
    ∙ ap₂ (λ (b : Bool) (s : Console). forgotten_if b s) (c.is_ground_state.ensures ∙ ap is_ground_state c.state.ensures.value) c.in_ok-obey_token_if.ensures.done in
    next_size c.laws_below.ensures before c.args.self.now (take n c.args.bytes.now) c.next.result.1 c.next.follows.lender-at-none _ c.self.view_is c.self.invariant
    c.requires.title c.requires.character (goes_front _ c.args.bytes.now n c.next.ensures.some c.requires.goes) c.next.ensures.told c.next.follows.holds-at-none console

pub returns-clause-told : goal.returns-clause-told
returns-clause-told c = λ before was.
    c.forget_if.ensures.told before (c.obey_token_if.ensures.told before (subst (λ (s : Seen). Told before s) (sym c.self.view_is) was))
