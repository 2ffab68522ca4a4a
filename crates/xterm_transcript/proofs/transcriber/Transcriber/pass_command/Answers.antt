use Rattle.std.proofs.Common.{◌≡◌, ℕ, ◌<◌, Bool, List, Some, take, refl, sym, ap, ◌∙◌, subst}
use Rattle.std.specs.Prelude.{Option}
use Rattle.vt_parser.specs.declared.commands.Mode.{Mode}
use Rattle.vt_parser.specs.declared.commands.Mode.TheVariants.{Ansi}
use Rattle.vt_parser.specs.declared.commands.Token.{Token}
use Rattle.vt_parser.specs.declared.states.ParserState.{ParserState}
use Rattle.vt_parser.specs.Machine.{context_in}
use Rattle.vt_parser.specs.Token.{TellsOf, command_of_token}
use Rattle.vt_parser.specs.View.{parser_view}
use Rattle.xterm_term.specs.Reading.{GoesOn}
use Rattle.xterm_transcript.specs.declared.leaving.Leaving.TheVariants.{NoRow}
use Rattle.xterm_transcript.specs.Leaving.{leaving}
use Rattle.xterm_transcript.specs.Playing.{home_by}
use Rattle.xterm_transcript.proofs.PassLemmas.{piece_played}
use Rattle.xterm_transcript.proofs.PieceLemmas.{command_next, none_next, plays_next}
use Rattle.xterm_transcript.proofs.transcriber.Transcriber.pass_command.Goals as goal

pub returns-in_default-clause-played : goal.returns-in_default-clause-played
returns-in_default-clause-played c x is =
    let n = c.next.result.0 in
    let most = c.most_taken-most.result in
    let bytes = c.args.bytes.now in
    let now = c.args.self.now in
    let state = c.next.follows.lender-at-none in
    let goes : 1 < most → GoesOn now.parser (take most bytes) = λ more. subst (λ (s : ParserState). GoesOn s (take most bytes)) c.state.ensures.value (c.most_taken-most.ensures.goes more) in
    let gives = λ (mode : Mode) (pending : List ℕ) (view : parser_view mode pending ≡ Some now.parser).
    subst (λ (t : Option Token). TellsOf Ansi mode pending (take n (take most bytes)) t) c.in_default.is (c.next.ensures.told mode pending view) in
    let comes = none_next now x is bytes most n state c.requires.title c.requires.none c.next.ensures.some c.next.ensures.within c.most_taken-most.ensures.one goes
    c.requires.low c.next.follows.holds-at-none c.place_of-place.result c.is_ground-done.result c.none_piece.result gives
    (c.place_of-place.ensures ∙ ap context_in c.state-2.ensures.value)
    (λ done. sym c.state-in_default.ensures.value ∙ c.is_ground-done.ensures.ground done)
    (λ on. c.is_ground-done.ensures.other (c.state-in_default.ensures.value ∙ on)) c.none_piece.ensures.leaving c.none_piece.ensures.after in
    c.in_ok-play.ensures x x.term is.shows (λ seen shows. shows) is.home comes

pub returns-clause-played : goal.returns-clause-played
returns-clause-played c x is =
    let n = c.next.result.0 in
    let most = c.most_taken-most.result in
    let bytes = c.args.bytes.now in
    let now = c.args.self.now in
    let state = c.next.follows.lender-at-none in
    let goes : 1 < most → GoesOn now.parser (take most bytes) = λ more. subst (λ (s : ParserState). GoesOn s (take most bytes)) c.state.ensures.value (c.most_taken-most.ensures.goes more) in
    let told = λ (mode : Mode) (pending : List ℕ) (view : parser_view mode pending ≡ Some now.parser).
    subst (λ (t : Option Token). TellsOf Ansi mode pending (take n (take most bytes)) t) c.in-Some.is (c.next.ensures.told mode pending view) in
    let comes = command_next now x is bytes most n state c.requires.title c.requires.none c.next.ensures.some c.next.ensures.within c.most_taken-most.ensures.one goes
    c.requires.low c.next.follows.holds-at-none c.in-Some.token c.requires.off told (leaving (command_of_token c.in-Some.token) now.home now.terminal.console) c.after_token.result refl c.after_token.ensures in
    let shows = plays_next now x is bytes most n state c.requires.title c.requires.none c.next.ensures.some c.next.ensures.within c.most_taken-most.ensures.one goes
    c.requires.low c.next.follows.holds-at-none c.in-Some.token c.requires.off told NoRow c.is_ground-ground.result c.play_token.new.terminal
    (λ on. sym c.state-3.ensures.value ∙ c.is_ground-ground.ensures.ground on) (c.in_ok-play_token.ensures x.term is.shows) in
    piece_played (record { terminal = c.play_token.new.terminal; parser = state; home = c.is_home_after-self.result; reports = c.play_token.new.reports })
    x (take n bytes) _ shows
    (c.is_home_after-self.ensures ∙ ap (home_by c.after_token.result now.home) c.screen.ensures.value
    ∙ ap (λ (h : Bool). home_by c.after_token.result h c.play_token.new.terminal.console.picture) is.home) comes
