-- What the terminal shows and sends after bytes that the parser takes.
use Rattle.std.proofs.Common.{◌≡◌, ℕ, Bool, List, [], map, refl, sym, ap, subst, ◌∙◌}
use Rattle.std.specs.Prelude.{Option, Some, None}
use Rattle.vt_parser.specs.declared.commands.Mode.{Mode}
use Rattle.vt_parser.specs.declared.states.ParserState.{ParserState}
use Rattle.vt_parser.specs.declared.states.ParserState.TheVariants.{Ground}
use Rattle.vt_parser.specs.declared.commands.Token.{Token}
use Rattle.vt_parser.specs.declared.commands.Token.TheVariants.{Show}
use Rattle.vt_parser.specs.View.{parser_view}
use Rattle.vt_parser.specs.Fold.{mode_after_bytes, pending_after_bytes}
use Rattle.vt_parser.specs.Token.{command_of_token, IsRun, TellsOf, Leads}
use Rattle.vt_term.specs.declared.profile.Profile.{Profile}
use Rattle.vt_term.specs.Console.{Console, IsSafe, reset_console, effect_of}
use Rattle.vt_term.specs.Replies.{reply_of}
use Rattle.vt_term.specs.Effect.{glyphs_shown, glyph_for, token_effect, token_reply}
use Rattle.vt_term.specs.Term.{Term, reset_term_as, mode_of, play, sent}
use Rattle.vt_term.specs.Seen.{Seen, Shows, IsTerminal}
use Rattle.vt_parser.proofs.Agrees.{ground_is_empty}
use Rattle.vt_term.specs.Printing.{on_ground}
use Rattle.vt_term.proofs.Obeyed.{run_leaves_nothing}
use Rattle.vt_term.proofs.Printed.{characters_bring}
use Rattle.vt_term.proofs.Safe.{safe_reset}
use Rattle.vt_term.proofs.Steps.{term, mode_shown, mode_stays, shows_given, safe_play}

-- ---- the reset terms

pub reset_shows : (profile : Profile) (touched : List Bool) → Shows (record { console = reset_console profile; state = Ground; touched = touched }) (reset_term_as profile)
reset_shows profile touched = record { console = refl; state = ground_is_empty.0 _ }

pub reset_proper : (profile : Profile) (touched : List Bool) → IsTerminal (record { console = reset_console profile; state = Ground; touched = touched })
reset_proper profile touched = record { safe = safe_reset profile; term = (reset_term_as profile, reset_shows profile touched) }

-- two parts that are what they are give one value
pub seen_is : (console told : Console) (state stands : ParserState) (touched : List Bool) → console ≡ told → state ≡ stands
    → ◌≡◌ {A = Seen} (record { console = told; state = stands; touched = touched }) (record { console = console; state = state; touched = touched })
seen_is console told state stands touched console_same state_same = cc

-- ---- what the parser takes

shows_many : (seen : Seen) (x : Term) (bytes run : List ℕ) (state : ParserState) (touched : List Bool) → Shows seen x
    → IsRun x.pending bytes run → Leads seen.state seen.console.modes.mode bytes state
    → Shows (record { console = glyphs_shown (map (glyph_for seen.console) run) seen.console; state = state; touched = touched }) (play x bytes) × (sent x bytes ≡ [])
shows_many seen x bytes run state touched shows is leads =
    let given = seen.console.modes.mode in
    let there = mode_after_bytes given (mode_of x) bytes in
    let brings = characters_bring x.console bytes is.graphic in
    let here : x ≡ on_ground x.console x.reports = ap (λ (p : List ℕ). term x.console p x.reports) is.ground in
    let none : pending_after_bytes given (mode_of x) x.pending bytes ≡ []
    = ap (λ (p : List ℕ). pending_after_bytes given (mode_of x) p bytes) is.ground ∙ run_leaves_nothing given (mode_of x) bytes is.graphic in
    let view : parser_view there [] ≡ Some state = ap (parser_view there) (sym none) ∙ leads (mode_of x) x.pending shows.state in
    let after : Shows (record { console = glyphs_shown (map (glyph_for seen.console) run) seen.console; state = state; touched = touched })
    (on_ground (glyphs_shown (map (glyph_for x.console) bytes) x.console) x.reports) = record {
      console = ap (λ (s : Console). glyphs_shown (map (glyph_for s) bytes) s) shows.console
          ∙ ap (λ (l : List ℕ). glyphs_shown (map (glyph_for seen.console) l) seen.console) (sym is.whole);
      state = ground_is_empty.0 _ ∙ sym (ground_is_empty.0 there) ∙ view;
    } in (
      subst (Shows (record { console = glyphs_shown (map (glyph_for seen.console) run) seen.console; state = state; touched = touched })) (sym (ap (λ (y : Term). play y bytes) here ∙ brings.played x.reports)) after,
      ap (λ (y : Term). sent y bytes) here ∙ brings.silent x.reports,
    )

-- ---- any token

shows_told : (seen : Seen) (x : Term) (bytes : List ℕ) (token : Option Token) (state : ParserState) (touched : List Bool) → Shows seen x
    → TellsOf seen.console.modes.mode (mode_of x) x.pending bytes token → Leads seen.state seen.console.modes.mode bytes state
    → Shows (record { console = effect_of token_effect token seen.console; state = state; touched = touched }) (play x bytes) × (sent x bytes ≡ reply_of token_reply token seen.console)
shows_told seen x bytes None state touched shows told leads = shows_given seen x bytes None state touched shows told (leads (mode_of x) x.pending shows.state)
shows_told seen x bytes (Some (Show run)) state touched shows told leads = shows_many seen x bytes run.now state touched shows told leads
shows_told seen x bytes (Some token) state touched shows told leads =
    shows_given seen x bytes (Some (command_of_token token)) state touched shows told (leads (mode_of x) x.pending shows.state)

-- from what the parser says of any pending text
pub shows_next : (seen now : Seen) (x : Term) (bytes : List ℕ) (given token : Option Token) (state : ParserState) (touched : List Bool)
    → seen ≡ now → given ≡ token → Shows now x
    → ((mode : Mode) (pending : List ℕ) → parser_view mode pending ≡ Some seen.state → TellsOf seen.console.modes.mode mode pending bytes given)
    → Leads seen.state seen.console.modes.mode bytes state
    → Shows (record { console = effect_of token_effect token seen.console; state = state; touched = touched }) (play x bytes) × (sent x bytes ≡ reply_of token_reply token seen.console)
shows_next seen now x bytes given token state touched same is shows told leads =
    let inside : Shows seen x = subst (λ (it : Seen). Shows it x) (sym same) shows in
    shows_told seen x bytes token state touched inside
    (subst (TellsOf seen.console.modes.mode (mode_of x) x.pending bytes) is (told (mode_of x) x.pending inside.state)) leads

-- the terminal stays one, with the token's effect and without it
pub told_terminal : (seen : Seen) (bytes : List ℕ) (given token : Option Token) (state : ParserState) (touched : List Bool) → given ≡ token → IsTerminal seen
    → ((mode : Mode) (pending : List ℕ) → parser_view mode pending ≡ Some seen.state → TellsOf seen.console.modes.mode mode pending bytes given)
    → Leads seen.state seen.console.modes.mode bytes state
    → IsTerminal (record { console = effect_of token_effect token seen.console; state = state; touched = touched })
told_terminal seen bytes given token state touched same is told leads =
    let x = is.term.0 in
    let after = (shows_next seen seen x bytes given token state touched refl same is.term.1 told leads).0 in
    record {
      safe = subst IsSafe after.console (safe_play x bytes (subst IsSafe (sym is.term.1.console) is.safe));
      term = (play x bytes, after);
    }

pub left_terminal : (seen : Seen) (bytes : List ℕ) (state : ParserState) (touched : List Bool) → IsTerminal seen
    → Leads seen.state seen.console.modes.mode bytes state → IsTerminal (record { console = seen.console; state = state; touched = touched })
left_terminal seen bytes state touched is leads =
    let x = is.term.0 in
    let shows = is.term.1 in
    let given = seen.console.modes.mode in
    let mode : mode_of x ≡ given = mode_shown seen x shows in
    let stays : mode_after_bytes given (mode_of x) bytes ≡ mode_of x = mode_stays given (mode_of x) bytes mode ∙ sym mode in
    let y : Term = term x.console (pending_after_bytes given (mode_of x) x.pending bytes) [] in
    let view : parser_view (mode_of x) (pending_after_bytes given (mode_of x) x.pending bytes) ≡ Some state
    = ap (λ (m : Mode). parser_view m (pending_after_bytes given (mode_of x) x.pending bytes)) (sym stays) ∙ leads (mode_of x) x.pending shows.state in
    record { safe = is.safe; term = (y, record { console = shows.console; state = view }) }

-- ---- marks

-- what is shown is shown whatever the marks
pub shows_marked : (seen : Seen) (x : Term) (touched : List Bool) → Shows seen x → Shows (record seen { touched = touched }) x
shows_marked seen x touched shows = record { console = shows.console; state = shows.state }

pub terminal_marked : (seen : Seen) (touched : List Bool) → IsTerminal seen → IsTerminal (record seen { touched = touched })
terminal_marked seen touched is = record { safe = is.safe; term = (is.term.0, shows_marked seen is.term.0 touched is.term.1) }
