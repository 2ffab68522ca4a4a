-- The state text, behind whatever bytes and with whatever bytes behind it.
use Rattle.std.proofs.Common.{◌≡◌, ℕ, List, [], ◌++◌, refl, sym, ap, ap₂, subst, ◌∙◌}
use Rattle.std.specs.Prelude.{Option, unwrap_or}
use Rattle.tape_cut.specs.States.{MakesAnyThis as Makes}
use Rattle.vt_parser.specs.declared.states.ParserState.{ParserState}
use Rattle.vt_parser.specs.declared.states.ParserState.TheVariants.{Ground}
use Rattle.vt_parser.proofs.Shapes.{shows_none}
use Rattle.vt_term.specs.contracts.playing.TerminalPlays.TheImpl as plays
use Rattle.vt_term.specs.declared.profile.Profile.{Profile}
use Rattle.vt_term.specs.Console.{Console, reset_console}
use Rattle.vt_term.specs.Seen.{Seen, Shows}
use Rattle.vt_term.specs.Term.{Term, mode_of, play, reset_term_as, sent}
use Rattle.vt_term.proofs.Steps.{plays_in_parts, seen_decides}
use Rattle.screen_state.specs.Remade.{text_after}
use Rattle.screen_state.specs.StateText.{state_text}
use Rattle.screen_state.proofs.ProfileLemmas.{profile_stays}
use Rattle.screen_state.proofs.Remade.{makes_any_this}

abbrev after : Profile → List ℕ → Term
after profile bytes = play (reset_term_as profile) bytes

-- something shows each term that comes of a reset one
viewed : (profile : Profile) (bytes : List ℕ) → (seen : Seen) × Shows seen (after profile bytes)
viewed profile bytes =
    let start : Seen = record { console = reset_console profile; state = Ground; touched = [] } in
    let x = reset_term_as profile in
    let shows : Shows start x = record { console = refl; state = shows_none (mode_of x) } in
    let there = (seen_decides start x x bytes shows shows).0 in
    (there.0, there.1)

pub text_is : (profile : Profile) (bytes : List ℕ) (seen : Seen) → Shows seen (after profile bytes)
    → state_text seen.console seen.state ≡ text_after profile bytes
text_is profile bytes seen shows =
    ap₂ (λ (s : Console) (state : ParserState). state_text s state) (sym shows.console)
    (sym (ap (λ (o : Option ParserState). unwrap_or o Ground) shows.state))

-- the text leaves what was written, and sends nothing
left : (profile : Profile) (before bytes : List ℕ) (seen : Seen) → Shows seen (after profile bytes)
    → Shows seen (play (after profile before) (text_after profile bytes)) × (sent (after profile before) (text_after profile bytes) ≡ [])
left profile before bytes seen shows =
    subst (λ (text : List ℕ). Shows seen (play (after profile before) text) × (sent (after profile before) text ≡ []))
    (text_is profile bytes seen shows)
    (makes_any_this seen (after profile bytes) (after profile before) (profile, bytes, refl) shows
    (profile_stays profile before ∙ sym (profile_stays profile bytes)))

-- what shows one term shows another that the same thing shows
shown_too : (seen other : Seen) (x y : Term) → Shows seen x → Shows seen y → Shows other x → Shows other y
shown_too seen other x y one two is = record {
  console = two.console ∙ sym one.console ∙ is.console;
  state = two.state ∙ sym one.state ∙ is.state;
}

parts : (profile : Profile) (before text more : List ℕ)
    → after profile (before ++ text ++ more) ≡ play (play (after profile before) text) more
parts profile before text more =
    plays_in_parts (reset_term_as profile) (before ++ text) more
    ∙ ap (λ (x : Term). play x more) (plays_in_parts (reset_term_as profile) before text)

both : (profile : Profile) (before bytes more : List ℕ)
    → (seen : Seen) × Shows seen (after profile (before ++ text_after profile bytes ++ more)) × Shows seen (after profile (bytes ++ more))
both profile before bytes more =
    let y = viewed profile bytes in
    let made = left profile before bytes y.0 y.1 in
    let text = text_after profile bytes in
    let there = (seen_decides y.0 (play (after profile before) text) (after profile bytes) more made.0 y.1).0 in (
      there.0,
      subst (Shows there.0) (sym (parts profile before text more)) there.1,
      subst (Shows there.0) (sym (plays_in_parts (reset_term_as profile) bytes more)) there.2,
    )

pub makes : Makes plays.ghosts text_after
makes = record {
  seen = λ profile before bytes more terminal.
      let there = both profile before bytes more in
      let x = after profile (before ++ text_after profile bytes ++ more) in
      let y = after profile (bytes ++ more) in
      (λ shows. shown_too there.0 terminal x y there.1 there.2 shows, λ shows. shown_too there.0 terminal y x there.2 there.1 shows);
  silent = λ profile before bytes. let y = viewed profile bytes in (left profile before bytes y.0 y.1).1;
  answers = λ profile before bytes more.
      let y = viewed profile bytes in
      let made = left profile before bytes y.0 y.1 in
      let text = text_after profile bytes in
      ap (λ (x : Term). sent x more) (plays_in_parts (reset_term_as profile) before text)
      ∙ (seen_decides y.0 (play (after profile before) text) (after profile bytes) more made.0 y.1).1;
}
