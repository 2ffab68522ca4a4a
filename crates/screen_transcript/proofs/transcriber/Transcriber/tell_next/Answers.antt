use Rattle.std.proofs.Common.{◌≡◌, ℕ, List, Some, take, refl, ap, ap₂, sym, subst, ◌∙◌}
use Rattle.std.specs.Prelude.{Option, ◌&&◌}
use Rattle.std.proofs.lemmas.Result.{err_from_is_err_and}
use Rattle.transcripts.specs.Told.{Tells, TellsFront}
use Rattle.transcripts.proofs.ToldLemmas.{front_whole, tells_none}
use Rattle.vt_parser.specs.declared.commands.Mode.{Mode}
use Rattle.vt_parser.specs.declared.commands.Token.{Token}
use Rattle.vt_parser.specs.Machine.{context_in}
use Rattle.vt_parser.specs.Token.{command_of_token, TellsOf}
use Rattle.vt_parser.specs.View.{parser_view}
use Rattle.vt_screen.specs.Picture.{Picture}
use Rattle.vt_term.specs.Console.{Console}
use Rattle.screen_transcript.specs.declared.leaving.Leaving.{Leaving}
use Rattle.screen_transcript.specs.Home.{is_home, places}
use Rattle.screen_transcript.specs.Leaving.{leaving, rows_of}
use Rattle.screen_transcript.proofs.PartLemmas.{plays_term}
use Rattle.screen_transcript.proofs.PassLemmas.{front_taken}
use Rattle.screen_transcript.proofs.PieceLemmas.{none_console, none_next, now_played, told_next, token_next}
use Rattle.screen_transcript.proofs.transcriber.Transcriber.tell_next.Goals as goal

pub returns-in_default-clause-played : goal.returns-in_default-clause-played
returns-in_default-clause-played g c x is =
    let n = c.next.result.0 in
    let most = c.most_taken-most.result in
    let bytes = c.args.bytes.now in
    let given = c.mode.result in
    let state = c.next.follows.lender-at-none in
    let gives = λ (mode : Mode) (pending : List ℕ) (view : parser_view mode pending ≡ Some c.args.self.now.parser).
    subst (λ (t : Option Token). TellsOf given mode pending (take n (take most bytes)) t) c.in_default.is (c.next.ensures.told mode pending view) in
    let comes = none_next c.args.self.now x is bytes most n given state c.mode.ensures c.next.ensures.some c.next.ensures.within c.most_taken-most.ensures.one
    c.next.follows.holds-at-none c.place_of-place.result c.is_ground-done.result c.stays_home-self.result gives
    (c.place_of-place.ensures ∙ ap context_in c.state-2.ensures.value)
    (λ done. sym c.state-in_default.ensures.value ∙ c.is_ground-done.ensures.ground done)
    (λ on. c.is_ground-done.ensures.other (c.state-in_default.ensures.value ∙ on)) c.stays_home-self.ensures in
    now_played (record { terminal = c.args.self.now.terminal; parser = state; home = c.stays_home-self.result; reports = c.args.self.now.reports })
    x (take n bytes) _ c.stays_home-self.result comes
    (none_console c.args.self.now x is bytes most n given state c.mode.ensures c.next.ensures.some c.next.ensures.within c.most_taken-most.ensures.one
    c.next.follows.holds-at-none gives) refl

pub returns-clause-played : goal.returns-clause-played
returns-clause-played g c x is =
    let n = c.next.result.0 in
    let most = c.most_taken-most.result in
    let bytes = c.args.bytes.now in
    let given = c.mode.result in
    let it = c.in-Some.token in
    let state = c.next.follows.lender-at-none in
    let told = λ (mode : Mode) (pending : List ℕ) (view : parser_view mode pending ≡ Some c.args.self.now.parser).
    subst (λ (t : Option Token). TellsOf given mode pending (take n (take most bytes)) t) c.in-Some.is (c.next.ensures.told mode pending view) in
    let comes = token_next c.args.self.now x is bytes most n given state c.mode.ensures c.next.ensures.some c.next.ensures.within c.most_taken-most.ensures.one
    c.next.follows.holds-at-none it c.screen.result.now.picture c.screen.ensures.safe c.screen.ensures.value
    (λ many ground graphic. c.most_taken-most.ensures.room many (c.state.ensures.value ∙ ground) graphic) told in
    let console = c.in_ok-self.ensures.played x.term (take n bytes) is.console
    (told_next c.args.self.now x is bytes most n given state c.mode.ensures c.next.ensures.some c.next.ensures.within c.most_taken-most.ensures.one
    c.next.follows.holds-at-none it told) in
    now_played (record { terminal = c.obey.new.terminal; parser = state; home = c.in_ok-self.field-0; reports = c.obey.new.reports })
    x (take n bytes) _ _ comes (sym console)
    (c.in_ok-self.ensures.home
    ∙ ap (λ (s : Console). places (command_of_token it) && is_home s.picture) (console ∙ sym (ap (λ t. t.console) (plays_term x (take n bytes)))))

pub returns-in_default-clause-tells : goal.returns-in_default-clause-tells
returns-in_default-clause-tells g c x is =
    let n = c.next.result.0 in
    let most = c.most_taken-most.result in
    let bytes = c.args.bytes.now in
    let given = c.mode.result in
    let state = c.next.follows.lender-at-none in
    let gives = λ (mode : Mode) (pending : List ℕ) (view : parser_view mode pending ≡ Some c.args.self.now.parser).
    subst (λ (t : Option Token). TellsOf given mode pending (take n (take most bytes)) t) c.in_default.is (c.next.ensures.told mode pending view) in
    let comes = none_next c.args.self.now x is bytes most n given state c.mode.ensures c.next.ensures.some c.next.ensures.within c.most_taken-most.ensures.one
    c.next.follows.holds-at-none c.place_of-place.result c.is_ground-done.result c.stays_home-self.result gives
    (c.place_of-place.ensures ∙ ap context_in c.state-2.ensures.value)
    (λ done. sym c.state-in_default.ensures.value ∙ c.is_ground-done.ensures.ground done)
    (λ on. c.is_ground-done.ensures.other (c.state-in_default.ensures.value ∙ on)) c.stays_home-self.ensures in
    subst (Tells g.W.Write.contents c.args.writer.now c.args.rows.now c.args.writer.now c.args.rows.now) (sym comes.rows) (tells_none c.args.writer.now c.args.rows.now)

pub returns-in_err-tell_leaving-clause-front : goal.returns-in_err-tell_leaving-clause-front
returns-in_err-tell_leaving-clause-front g c x is =
    let n = c.next.result.0 in
    let most = c.most_taken-most.result in
    let bytes = c.args.bytes.now in
    let given = c.mode.result in
    let it = c.in-Some.token in
    let told = λ (mode : Mode) (pending : List ℕ) (view : parser_view mode pending ≡ Some c.args.self.now.parser).
    subst (λ (t : Option Token). TellsOf given mode pending (take n (take most bytes)) t) c.in-Some.is (c.next.ensures.told mode pending view) in
    let comes = token_next c.args.self.now x is bytes most n given c.next.follows.lender-at-none c.mode.ensures c.next.ensures.some c.next.ensures.within
    c.most_taken-most.ensures.one c.next.follows.holds-at-none it c.screen.result.now.picture c.screen.ensures.safe c.screen.ensures.value
    (λ many ground graphic. c.most_taken-most.ensures.room many (c.state.ensures.value ∙ ground) graphic) told in
    let rows = sym (comes.rows
    ∙ ap₂ (λ (p q : Picture). rows_of (leaving (command_of_token it) c.args.self.now.home p) q) (c.screen.ensures.value ∙ sym c.screen-2.ensures.value)
    (ap (λ (s : Console). s.picture) is.console ∙ sym c.screen-3.ensures.value)
    ∙ ap (λ (l : Leaving). rows_of l c.screen-3.result.now.picture) (sym c.leaving_at-leaving.ensures)) in
    let p = err_from_is_err_and c.from_residual.result c.from_residual.ensures.1 in
    rw p.1 (front_taken x bytes n
    (subst (TellsFront g.W.Write.contents c.args.writer.now c.args.rows.now c.tell_leaving.new.writer c.tell_leaving.new.rows) rows c.in_err-tell_leaving.ensures.front))

pub returns-in_err-self-clause-front : goal.returns-in_err-self-clause-front
returns-in_err-self-clause-front g c x is =
    let n = c.next.result.0 in
    let most = c.most_taken-most.result in
    let bytes = c.args.bytes.now in
    let given = c.mode.result in
    let it = c.in-Some.token in
    let told = λ (mode : Mode) (pending : List ℕ) (view : parser_view mode pending ≡ Some c.args.self.now.parser).
    subst (λ (t : Option Token). TellsOf given mode pending (take n (take most bytes)) t) c.in-Some.is (c.next.ensures.told mode pending view) in
    let comes = token_next c.args.self.now x is bytes most n given c.next.follows.lender-at-none c.mode.ensures c.next.ensures.some c.next.ensures.within
    c.most_taken-most.ensures.one c.next.follows.holds-at-none it c.screen.result.now.picture c.screen.ensures.safe c.screen.ensures.value
    (λ many ground graphic. c.most_taken-most.ensures.room many (c.state.ensures.value ∙ ground) graphic) told in
    let rows = sym (comes.rows
    ∙ ap₂ (λ (p q : Picture). rows_of (leaving (command_of_token it) c.args.self.now.home p) q) (c.screen.ensures.value ∙ sym c.screen-2.ensures.value)
    (ap (λ (s : Console). s.picture) is.console ∙ sym c.screen-3.ensures.value)
    ∙ ap (λ (l : Leaving). rows_of l c.screen-3.result.now.picture) (sym c.leaving_at-leaving.ensures)) in
    let p = err_from_is_err_and c.from_residual-in_err-self.result c.from_residual-in_err-self.ensures.1 in
    rw p.1 (front_taken x bytes n
    (front_whole (subst (Tells g.W.Write.contents c.args.writer.now c.args.rows.now c.tell_leaving.new.writer c.tell_leaving.new.rows) rows c.in_ok-tell_leaving.ensures.tells)))

pub returns-clause-tells : goal.returns-clause-tells
returns-clause-tells g c x is =
    let n = c.next.result.0 in
    let most = c.most_taken-most.result in
    let bytes = c.args.bytes.now in
    let given = c.mode.result in
    let it = c.in-Some.token in
    let told = λ (mode : Mode) (pending : List ℕ) (view : parser_view mode pending ≡ Some c.args.self.now.parser).
    subst (λ (t : Option Token). TellsOf given mode pending (take n (take most bytes)) t) c.in-Some.is (c.next.ensures.told mode pending view) in
    let comes = token_next c.args.self.now x is bytes most n given c.next.follows.lender-at-none c.mode.ensures c.next.ensures.some c.next.ensures.within
    c.most_taken-most.ensures.one c.next.follows.holds-at-none it c.screen.result.now.picture c.screen.ensures.safe c.screen.ensures.value
    (λ many ground graphic. c.most_taken-most.ensures.room many (c.state.ensures.value ∙ ground) graphic) told in
    let rows = sym (comes.rows
    ∙ ap₂ (λ (p q : Picture). rows_of (leaving (command_of_token it) c.args.self.now.home p) q) (c.screen.ensures.value ∙ sym c.screen-2.ensures.value)
    (ap (λ (s : Console). s.picture) is.console ∙ sym c.screen-3.ensures.value)
    ∙ ap (λ (l : Leaving). rows_of l c.screen-3.result.now.picture) (sym c.leaving_at-leaving.ensures)) in
    subst (Tells g.W.Write.contents c.args.writer.now c.args.rows.now c.tell_leaving.new.writer c.tell_leaving.new.rows) rows c.in_ok-tell_leaving.ensures.tells
