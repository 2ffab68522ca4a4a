-- What a state text makes of a terminal.
use Rattle.std.specs.Prelude.{◌≡◌, ℕ, ◌+◌, ◌*◌, ◌≤◌, List, [], length, unwrap_or}
use Rattle.std.specs.List.{count_by}
use Rattle.vt_term.specs.declared.profile.Profile.{Profile}
use Rattle.vt_parser.specs.declared.states.ParserState.TheVariants.{Ground}
use Rattle.vt_parser.specs.View.{parser_view}
use Rattle.vt_term.specs.Term.{Term, mode_of, reset_term_as, play, sent}
use Rattle.vt_term.specs.Seen.{Seen, Shows}
use Rattle.screen_print.specs.EscapedText.{escaped_text}
use Rattle.screen_state.specs.StateText.{state_text}

-- a term that bytes make of the reset term of some profile
abbrev pub ComesOfReset : Term → Type 0
ComesOfReset y = (profile : Profile) × (bytes : List ℕ) × (y ≡ play (reset_term_as profile) bytes)

-- the state text of the term that the reset one of a profile comes to by some bytes
abbrev pub text_after : Profile → List ℕ → List ℕ
text_after profile bytes =
    let x = play (reset_term_as profile) bytes in
    state_text x.console (unwrap_or (parser_view (mode_of x) x.pending) Ground)

-- The state text of such a term makes any term of its profile, whatever is pending there, one of which the same is
-- seen, and sends nothing.
abbrev pub MakesAnyThis : Type 0
MakesAnyThis =
    (seen : Seen) (y x : Term) → ComesOfReset y → Shows seen y → x.console.profile ≡ y.console.profile
    → Shows seen (play x (state_text seen.console seen.state))
    × (sent x (state_text seen.console seen.state) ≡ [])

-- It is at most as long as the escaped print, 16 bytes for each tab stop, and 2,048.
abbrev pub StateTextIsShort : Type 0
StateTextIsShort =
    (seen : Seen) (y : Term) → ComesOfReset y → Shows seen y
    → length (state_text seen.console seen.state)
    ≤ length (escaped_text seen.console) + 16 * count_by (λ stop. stop) seen.console.picture.tabs + 2048
