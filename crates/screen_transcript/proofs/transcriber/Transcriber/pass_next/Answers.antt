use Rattle.std.proofs.Common.{◌≡◌, ℕ, List, Some, take, refl, ap, sym, subst, ◌∙◌}
use Rattle.std.specs.Prelude.{Option, ◌&&◌}
use Rattle.vt_parser.specs.declared.commands.Mode.{Mode}
use Rattle.vt_parser.specs.declared.commands.Token.{Token}
use Rattle.vt_parser.specs.Machine.{context_in}
use Rattle.vt_parser.specs.Token.{command_of_token, TellsOf}
use Rattle.vt_parser.specs.View.{parser_view}
use Rattle.vt_term.specs.Console.{Console}
use Rattle.screen_transcript.specs.Home.{is_home, places}
use Rattle.screen_transcript.proofs.PartLemmas.{plays_term}
use Rattle.screen_transcript.proofs.PieceLemmas.{none_console, none_next, now_played, told_next, token_next}
use Rattle.screen_transcript.proofs.transcriber.Transcriber.pass_next.Goals as goal

pub returns-in_default-clause-played : goal.returns-in_default-clause-played
returns-in_default-clause-played c x is =
    let n = c.next.result.0 in
    let most = c.most_taken-most.result in
    let bytes = c.args.bytes.now in
    let given = c.mode.result in
    let state = c.next.follows.lender-at-none in
    let gives = λ (mode : Mode) (pending : List ℕ) (view : parser_view mode pending ≡ Some c.args.self.now.parser).
    subst (λ (t : Option Token). TellsOf given mode pending (take n (take most bytes)) t) c.in_default.is (c.next.ensures.told mode pending view) in
    let comes = none_next c.args.self.now x is bytes most n given state c.mode.ensures c.next.ensures.some c.next.ensures.within c.most_taken-most.ensures.one
    c.next.follows.holds-at-none c.place_of-place.result c.is_ground-done.result c.stays_home-self.result gives
    (c.place_of-place.ensures ∙ ap context_in c.state-2.ensures.value)
    (λ done. sym c.state-in_default.ensures.value ∙ c.is_ground-done.ensures.ground done)
    (λ on. c.is_ground-done.ensures.other (c.state-in_default.ensures.value ∙ on)) c.stays_home-self.ensures in
    now_played (record { terminal = c.args.self.now.terminal; parser = state; home = c.stays_home-self.result; reports = c.args.self.now.reports })
    x (take n bytes) _ c.stays_home-self.result comes
    (none_console c.args.self.now x is bytes most n given state c.mode.ensures c.next.ensures.some c.next.ensures.within c.most_taken-most.ensures.one
    c.next.follows.holds-at-none gives) refl

pub returns-clause-played : goal.returns-clause-played
returns-clause-played c x is =
    let n = c.next.result.0 in
    let most = c.most_taken-most.result in
    let bytes = c.args.bytes.now in
    let given = c.mode.result in
    let it = c.in-Some.token in
    let state = c.next.follows.lender-at-none in
    let told = λ (mode : Mode) (pending : List ℕ) (view : parser_view mode pending ≡ Some c.args.self.now.parser).
    subst (λ (t : Option Token). TellsOf given mode pending (take n (take most bytes)) t) c.in-Some.is (c.next.ensures.told mode pending view) in
    let comes = token_next c.args.self.now x is bytes most n given state c.mode.ensures c.next.ensures.some c.next.ensures.within c.most_taken-most.ensures.one
    c.next.follows.holds-at-none it c.screen.result.now.picture c.screen.ensures.safe c.screen.ensures.value
    (λ many ground graphic. c.most_taken-most.ensures.room many (c.state.ensures.value ∙ ground) graphic) told in
    let console = c.in_ok-self.ensures.played x.term (take n bytes) is.console
    (told_next c.args.self.now x is bytes most n given state c.mode.ensures c.next.ensures.some c.next.ensures.within c.most_taken-most.ensures.one
    c.next.follows.holds-at-none it told) in
    now_played (record { terminal = c.obey.new.terminal; parser = state; home = c.in_ok-self.field-0; reports = c.obey.new.reports })
    x (take n bytes) _ _ comes (sym console)
    (c.in_ok-self.ensures.home
    ∙ ap (λ (s : Console). places (command_of_token it) && is_home s.picture) (console ∙ sym (ap (λ t. t.console) (plays_term x (take n bytes)))))
