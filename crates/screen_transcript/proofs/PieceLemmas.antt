-- What some of the bytes come to.
use Rattle.std.proofs.Common.{◌≡◌, ℕ, zero, suc, ◌<◌, ◌≤◌, Bool, true, false, cond, List, [], ◌∷◌, length, take, refl, sym, ap, ap₂, ◌∙◌, subst, inl, inr, arith}
use Rattle.std.specs.Prelude.{Option, Some, None, ◌&&◌, not, slice_index}
use Rattle.std.specs.List.{list_all}
use Rattle.std.proofs.lemmas.Bool.{and_parts, cases_Bool}
use Rattle.std.proofs.lemmas.List.{length-take, take-take}
use Rattle.vt_parser.specs.declared.commands.Mode.{Mode}
use Rattle.vt_parser.specs.declared.commands.Command.{Command}
use Rattle.vt_parser.specs.declared.commands.Token.{Token}
use Rattle.vt_parser.specs.declared.commands.Token.TheVariants as token
use Rattle.vt_parser.specs.declared.states.ParserState.{ParserState}
use Rattle.vt_parser.specs.declared.states.ParserState.TheVariants.{Ground}
use Rattle.vt_parser.specs.declared.syntax.Context.{Context}
use Rattle.vt_parser.specs.Syntax.{action_of, is_graphic}
use Rattle.vt_parser.specs.Machine.{context_in}
use Rattle.vt_parser.specs.View.{parser_view}
use Rattle.vt_parser.specs.Step.{command_of, context_of, pending_after}
use Rattle.vt_parser.specs.Fold.{Gives, mode_after_bytes, pending_after_bytes}
use Rattle.vt_parser.specs.Law.{IsProper}
use Rattle.vt_parser.specs.Token.{IsRun, command_of_token, Leads, TellsOf}
use Rattle.vt_parser.proofs.Agrees.{ground_is_empty, same_context}
use Rattle.vt_screen.specs.Picture.{Picture}
use Rattle.vt_term.specs.Console.{Console, IsSafe}
use Rattle.vt_term.specs.Effect.{IsRead}
use Rattle.vt_term.specs.Term.{mode_of, play}
use Rattle.vt_term.proofs.Obeyed.{run_leaves_nothing}
use Rattle.transcripts.specs.declared.home.Place.{Place}
use Rattle.screen_transcript.specs.declared.leaving.Leaving.{Leaving}
use Rattle.screen_transcript.specs.declared.leaving.Leaving.TheVariants.{NoRow}
use Rattle.screen_transcript.specs.declared.transcriber.Transcriber.{Transcriber}
use Rattle.transcripts.specs.Acting.{place_in}
use Rattle.screen_transcript.specs.Home.{acts, is_empty, is_home, places}
use Rattle.screen_transcript.specs.Leaving.{at_put, leaving, rows_of}
use Rattle.screen_transcript.specs.Playing.{HasRoom, IsPlayed}
use Rattle.screen_transcript.specs.Transcribed.{Transcribed, left, play_on}
use Rattle.screen_transcript.proofs.CommandLemmas.{Came, came, none_home}
use Rattle.screen_transcript.proofs.PartLemmas.{plays_term}
use Rattle.screen_transcript.proofs.RunLemmas.{none_leaves, run_ends, wrap_leaves}
use Rattle.screen_transcript.proofs.ViewLemmas.{view_then}

-- which rows leave at the bytes, where the parser stands then, and whether what comes next comes directly behind home
pub record Comes (x : Transcribed) (bytes : List ℕ) (leaves : Leaving) (state : ParserState) (behind : Bool) : Type 0 where
  pub rows : left x bytes ≡ rows_of leaves x.term.console.picture
  pub shown : parser_view (mode_of (play_on x bytes).term) (play_on x bytes).term.pending ≡ Some state
  pub home : (play_on x bytes).home ≡ behind

-- so they are played by whatever has their console
pub now_played : (now : Transcriber) (x : Transcribed) (bytes : List ℕ) (leaves : Leaving) (home : Bool) → Comes x bytes leaves now.parser home
    → (play x.term bytes).console ≡ now.terminal → now.home ≡ home → IsPlayed now (play_on x bytes)
now_played now x bytes leaves home comes console home_is = record {
  console = ap (λ t. t.console) (plays_term x bytes) ∙ console;
  state = comes.shown;
  home = home_is ∙ sym comes.home;
}

-- ---- a run

run_rows : (x : Transcribed) (bytes : List ℕ) → x.term.pending ≡ [] → list_all is_graphic bytes ≡ true → 0 < length bytes
    → 1 ≤ x.term.console.picture.line → x.term.console.picture.line ≤ 24 → (1 < length bytes → HasRoom x.term.console.picture (length bytes))
    → left x bytes ≡ rows_of (at_put x.term.console.picture) x.term.console.picture
run_rows x [] ground graphic some low high room = absurd (omega arith)
run_rows x (byte ∷ []) ground graphic some low high room = wrap_leaves x byte ground (and_parts (is_graphic byte) true graphic).0
run_rows x (byte ∷ next ∷ rest) ground graphic some low high roomy = elim (cases_Bool x.term.console.picture.wrap) [
  | inl wrap ↦ let room = roomy (omega arith) in absurd (omega (arith, room.one wrap))
  | inr wrap ↦
      let p = x.term.console.picture in
      let room = roomy (omega arith) in
      none_leaves x (byte ∷ next ∷ rest) ground graphic wrap low high (room.room wrap)
      ∙ sym (ap (λ (l : Leaving). rows_of l p) (let is : at_put p ≡ NoRow = rw wrap refl in is))
]

run_comes : (x : Transcribed) (given : Mode) (bytes run : List ℕ) (old state : ParserState) → parser_view (mode_of x.term) x.term.pending ≡ Some old
    → IsRun x.term.pending bytes run → 0 < length bytes → 1 ≤ x.term.console.picture.line → x.term.console.picture.line ≤ 24
    → (1 < length bytes → HasRoom x.term.console.picture (length bytes)) → Leads old given bytes state
    → Comes x bytes (at_put x.term.console.picture) state false
run_comes x given [] run old state view is some low high room leads = absurd (omega arith)
run_comes x given (byte ∷ rest) run old state view is some low high room leads =
    let bytes = byte ∷ rest in
    let y = play_on x bytes in
    let end = run_ends x byte rest is.ground is.graphic in
    let there = mode_after_bytes given (mode_of x.term) bytes in
    let none : pending_after_bytes given (mode_of x.term) x.term.pending bytes ≡ [] =
    ap (λ (p : List ℕ). pending_after_bytes given (mode_of x.term) p bytes) is.ground ∙ run_leaves_nothing given (mode_of x.term) bytes is.graphic in
    record {
      rows = run_rows x bytes is.ground is.graphic some low high room;
      shown = ap (parser_view (mode_of y.term)) end.ground ∙ ground_is_empty.0 (mode_of y.term) ∙ sym (ground_is_empty.0 there)
          ∙ ap (parser_view there) (sym none) ∙ leads (mode_of x.term) x.term.pending view;
      home = end.home;
    }

-- ---- a command, or none

record Led (x : Transcribed) (bytes : List ℕ) (command : Option Command) (state : ParserState) : Type 0 where
  came : Came x bytes command
  shown : parser_view (mode_of (play_on x bytes).term) (play_on x bytes).term.pending ≡ Some state

led : (x : Transcribed) (given : Mode) (bytes : List ℕ) (command : Option Command) (old state : ParserState) → given ≡ mode_of x.term
    → parser_view (mode_of x.term) x.term.pending ≡ Some old → 0 < length bytes → (x.home ≡ true → length bytes ≤ 1)
    → Gives given (mode_of x.term) x.term.pending bytes command → Leads old given bytes state → Led x bytes command state
led x given [] command old state same view some one gives leads = absurd (omega arith)
led x given (byte ∷ rest) command old state same view some one gives leads =
    let s = x.term.console in
    let m = mode_of x.term in
    let bytes = byte ∷ rest in
    let here : Gives m m x.term.pending bytes command = subst (λ (n : Mode). Gives n m x.term.pending bytes command) same gives in
    let there : parser_view (mode_after_bytes m m bytes) (pending_after_bytes m m x.term.pending bytes) ≡ Some state =
    subst (λ (n : Mode). parser_view (mode_after_bytes n m bytes) (pending_after_bytes n m x.term.pending bytes) ≡ Some state) same
    (leads m x.term.pending view) in
    let all = came s x.term.pending x.term.reports x.home byte rest command (λ is. alone rest (one is)) here in
    let then = view_then m s x.term.pending bytes command state refl here there in
    record {
      came = all;
      shown = ap (λ (k : Console). parser_view k.modes.mode (play_on x bytes).term.pending) all.console
          ∙ ap (parser_view _) all.pending ∙ then;
    }
  where
    alone : (rest : List ℕ) → length (byte ∷ rest) ≤ 1 → rest ≡ []
    alone [] le = refl
    alone (next ∷ rest) le = absurd (omega (arith, le))

pub first_of : (n : ℕ) (bytes : List ℕ) → 0 < n → slice_index (take n bytes) 0 ≡ slice_index bytes 0
first_of zero bytes some = absurd (omega arith)
first_of (suc n) [] some = refl
first_of (suc n) (byte ∷ rest) some = refl

command_comes : (x : Transcribed) (given : Mode) (bytes : List ℕ) (command : Command) (old state : ParserState) → given ≡ mode_of x.term
    → parser_view (mode_of x.term) x.term.pending ≡ Some old → 0 < length bytes → (x.home ≡ true → length bytes ≤ 1)
    → Gives given (mode_of x.term) x.term.pending bytes (Some command) → Leads old given bytes state
    → Comes x bytes (leaving command x.home x.term.console.picture) state (places command && is_home (play_on x bytes).term.console.picture)
command_comes x given bytes command old state same view some one gives leads =
    let all = led x given bytes (Some command) old state same view some one gives leads in
    record { rows = all.came.rows; shown = all.shown; home = all.came.given command refl }

pub token_comes : (x : Transcribed) (given : Mode) (bytes : List ℕ) (it : Token) (old state : ParserState) → given ≡ mode_of x.term
    → parser_view (mode_of x.term) x.term.pending ≡ Some old → 0 < length bytes → (x.home ≡ true → length bytes ≤ 1)
    → 1 ≤ x.term.console.picture.line → x.term.console.picture.line ≤ 24
    → (1 < length bytes → x.term.pending ≡ [] → is_graphic (slice_index bytes 0) ≡ true → HasRoom x.term.console.picture (length bytes))
    → TellsOf given (mode_of x.term) x.term.pending bytes (Some it) → Leads old given bytes state
    → Comes x bytes (leaving (command_of_token it) x.home x.term.console.picture) state
    (places (command_of_token it) && is_home (play_on x bytes).term.console.picture)
unfolding leaving
token_comes x given bytes (token.Show run) old state same view some one low high room told leads =
    run_comes x given bytes run.now old state view told some low high (λ many. room many told.ground (first_graphic bytes some told.graphic)) leads
  where
    first_graphic : (bytes : List ℕ) → 0 < length bytes → list_all is_graphic bytes ≡ true → is_graphic (slice_index bytes 0) ≡ true
    first_graphic [] some graphic = absurd (omega arith)
    first_graphic (byte ∷ rest) some graphic = (and_parts (is_graphic byte) (list_all is_graphic rest) graphic).0
token_comes x given bytes it old state same view some one low high room told leads =
    command_comes x given bytes (command_of_token it) old state same view some one told leads

-- what the parser tells is read
pub read_token : (given mode : Mode) (pending bytes : List ℕ) (it : Token) → TellsOf given mode pending bytes (Some it) → IsProper (command_of_token it)
    → IsRead it
read_token given mode pending bytes (token.Show run) told proper = ap (list_all is_graphic) told.whole ∙ told.graphic
read_token given mode pending bytes it told proper = proper

-- ---- nothing

acting : (b h : Bool) → cond b false h ≡ (h && not b)
acting true true = refl
acting true false = refl
acting false true = refl
acting false false = refl

-- nothing is pending just where the state is on ground
empty_shown : (mode : Mode) (pending : List ℕ) (state : ParserState) (done : Bool) → parser_view mode pending ≡ Some state
    → (done ≡ true → state ≡ Ground) → (state ≡ Ground → done ≡ true) → is_empty pending ≡ done
empty_shown mode [] state done shown ground other =
    let is : Some state ≡ Some Ground = sym shown ∙ ground_is_empty.0 mode in sym (other cc)
empty_shown mode (byte ∷ rest) state true shown ground other =
    let none = ground_is_empty.1 mode (byte ∷ rest) (shown ∙ ap Some (ground refl)) in absurd cc
empty_shown mode (byte ∷ rest) state false shown ground other = refl

-- one byte
single_home : (x : Transcribed) (first : ℕ) (state : ParserState) (place : Place) (done behind : Bool)
    → command_of (mode_of x.term) x.term.pending first ≡ None
    → parser_view (mode_of (play_on x (first ∷ [])).term) (play_on x (first ∷ [])).term.pending ≡ Some state
    → place_in place ≡ context_of (mode_of x.term) x.term.pending
    → (done ≡ true → state ≡ Ground) → (state ≡ Ground → done ≡ true)
    → ((pending : List ℕ) → is_empty pending ≡ done → behind ≡ (x.home && not (acts (action_of (place_in place) first) pending)))
    → (play_on x (first ∷ [])).home ≡ behind
unfolding play_on
single_home x first state place done behind none view at ground other behind_is =
    let m = mode_of x.term in
    let y = play_on x (first ∷ []) in
    let left = pending_after m x.term.pending first in
    none_home x.term.console x.term.pending x.term.reports x.home first none
    ∙ ap (λ (c : Context). cond (acts (action_of c first) left) false x.home) (sym at)
    ∙ acting (acts (action_of (place_in place) first) left) x.home
    ∙ sym (behind_is left (empty_shown (mode_of y.term) left state done view ground other))

nothing_home : (x : Transcribed) (first : ℕ) (rest : List ℕ) (state : ParserState) (place : Place) (done behind : Bool)
    → Led x (first ∷ rest) None state → Gives (mode_of x.term) (mode_of x.term) x.term.pending (first ∷ rest) None → (x.home ≡ true → length (first ∷ rest) ≤ 1)
    → place_in place ≡ context_of (mode_of x.term) x.term.pending
    → (done ≡ true → state ≡ Ground) → (state ≡ Ground → done ≡ true)
    → ((pending : List ℕ) → is_empty pending ≡ done → behind ≡ (x.home && not (acts (action_of (place_in place) first) pending)))
    → (play_on x (first ∷ rest)).home ≡ behind
nothing_home x first [] state place done behind all none one at ground other behind_is =
    single_home x first state place done behind none all.shown at ground other behind_is
nothing_home x first (next ∷ rest) state place done behind all none one at ground other behind_is = elim (cases_Bool x.home) [
  | inl on ↦ absurd (omega (arith, one on))
  | inr off ↦
      let y = play_on x (first ∷ next ∷ rest) in
      let left = y.term.pending in
      all.came.none refl off
      ∙ sym (behind_is left (empty_shown (mode_of y.term) left state done all.shown ground other)
      ∙ ap (λ (h : Bool). h && not (acts (action_of (place_in place) first) left)) off)
]

pub none_comes : (x : Transcribed) (given : Mode) (bytes : List ℕ) (place : Place) (done behind : Bool) (old state : ParserState) → given ≡ mode_of x.term
    → parser_view (mode_of x.term) x.term.pending ≡ Some old → 0 < length bytes → (x.home ≡ true → length bytes ≤ 1)
    → Gives given (mode_of x.term) x.term.pending bytes None → Leads old given bytes state → place_in place ≡ context_in old
    → (done ≡ true → state ≡ Ground) → (state ≡ Ground → done ≡ true)
    → ((pending : List ℕ) → is_empty pending ≡ done → behind ≡ (x.home && not (acts (action_of (place_in place) (slice_index bytes 0)) pending)))
    → Comes x bytes NoRow state behind
none_comes x given [] place done behind old state same view some one gives leads at ground other behind_is = absurd (omega arith)
none_comes x given (first ∷ rest) place done behind old state same view some one gives leads at ground other behind_is =
    let m = mode_of x.term in
    let bytes = first ∷ rest in
    let all = led x given bytes None old state same view some one gives leads in
    record {
      rows = all.came.rows;
      shown = all.shown;
      home = nothing_home x first rest state place done behind all (subst (λ (n : Mode). Gives n m x.term.pending bytes None) same gives) one
          (at ∙ sym (same_context m x.term.pending old view)) ground other behind_is;
    }

-- ---- some of the bytes, as the parser takes them

room_less : (p : Picture) (n most : ℕ) → n ≤ most → HasRoom p most → HasRoom p n
room_less p n most le room = record { one = λ wrap. omega (arith, room.one wrap); room = λ wrap. omega (arith, room.room wrap) }

module _ (now : Transcriber) (x : Transcribed) (is : IsPlayed now x) (bytes : List ℕ) (most n : ℕ) (given : Mode) (state : ParserState)
    (mode : given ≡ now.terminal.modes.mode) (some : 0 < n) (within : n ≤ length (take most bytes)) (one : now.home ≡ true → most ≡ 1)
    (leads : Leads now.parser given (take n (take most bytes)) state) where
  taken : take n (take most bytes) ≡ take n bytes
  taken = take-take n most bytes (omega (arith, length-take most bytes, within))

  few : length (take n bytes) ≤ most
  few = omega (arith, length-take n bytes, length-take most bytes, within)

  long : 0 < length (take n bytes)
  long = omega (arith, length-take n bytes, length-take most bytes, within, some)

  same : given ≡ mode_of x.term
  same = mode ∙ sym (ap (λ (s : Console). s.modes.mode) is.console)

  alone : x.home ≡ true → length (take n bytes) ≤ 1
  alone home = omega (arith, few, one (is.home ∙ home))

  -- the mode is the term's
  pub told_next : (it : Token)
      → ((m : Mode) (pending : List ℕ) → parser_view m pending ≡ Some now.parser → TellsOf given m pending (take n (take most bytes)) (Some it))
      → TellsOf (mode_of x.term) (mode_of x.term) x.term.pending (take n bytes) (Some it)
  told_next it told =
      subst (λ (m : Mode). TellsOf m (mode_of x.term) x.term.pending (take n bytes) (Some it)) same
      (subst (λ l. TellsOf given (mode_of x.term) x.term.pending l (Some it)) taken (told (mode_of x.term) x.term.pending is.state))

  pub token_next : (it : Token) (p : Picture) → IsSafe now.terminal → p ≡ now.terminal.picture
      → (1 < most → now.parser ≡ Ground → is_graphic (slice_index bytes 0) ≡ true → HasRoom p most)
      → ((m : Mode) (pending : List ℕ) → parser_view m pending ≡ Some now.parser → TellsOf given m pending (take n (take most bytes)) (Some it))
      → Comes x (take n bytes) (leaving (command_of_token it) now.home p) state
      (places (command_of_token it) && is_home (play_on x (take n bytes)).term.console.picture)
  token_next it p safe picture room told =
      let here : p ≡ x.term.console.picture = picture ∙ sym (ap (λ (s : Console). s.picture) is.console) in
      let front = take n bytes in
      let grounded : x.term.pending ≡ [] → now.parser ≡ Ground =
      λ none. let at : Some now.parser ≡ Some Ground = sym is.state ∙ ap (parser_view (mode_of x.term)) none ∙ ground_is_empty.0 (mode_of x.term) in cc in
      let comes = token_comes x given front it now.parser state same is.state long alone
      (subst (λ (s : Console). 1 ≤ s.picture.line) (sym is.console) safe.sound.line_low)
      (subst (λ (s : Console). s.picture.line ≤ 24) (sym is.console) safe.sound.line_high)
      (λ many ground graphic.
      subst (λ (q : Picture). HasRoom q (length front)) here
      (room_less p (length front) most few
      (room (omega (arith, many, few)) (grounded ground) (ap is_graphic (sym (first_of n bytes some)) ∙ graphic))))
      (subst (λ l. TellsOf given (mode_of x.term) x.term.pending l (Some it)) taken (told (mode_of x.term) x.term.pending is.state))
      (subst (λ l. Leads now.parser given l state) taken leads) in
      record {
        rows = comes.rows
            ∙ ap₂ (λ (h : Bool) (q : Picture). rows_of (leaving (command_of_token it) h q) x.term.console.picture) (sym is.home) (sym here);
        shown = comes.shown;
        home = comes.home;
      }

  pub none_next : (place : Place) (done behind : Bool)
      → ((m : Mode) (pending : List ℕ) → parser_view m pending ≡ Some now.parser → Gives given m pending (take n (take most bytes)) None)
      → place_in place ≡ context_in now.parser → (done ≡ true → state ≡ Ground) → (state ≡ Ground → done ≡ true)
      → ((pending : List ℕ) → is_empty pending ≡ done → behind ≡ (now.home && not (acts (action_of (place_in place) (slice_index bytes 0)) pending)))
      → Comes x (take n bytes) NoRow state behind
  none_next place done behind gives at ground other behind_is =
      none_comes x given (take n bytes) place done behind now.parser state same is.state long alone
      (subst (λ l. Gives given (mode_of x.term) x.term.pending l None) taken (gives (mode_of x.term) x.term.pending is.state))
      (subst (λ l. Leads now.parser given l state) taken leads) at ground other
      (λ pending empty.
      behind_is pending empty
      ∙ ap₂ (λ (h : Bool) byte. h && not (acts (action_of (place_in place) byte) pending)) is.home (sym (first_of n bytes some)))

  -- the console stays
  pub none_console : ((m : Mode) (pending : List ℕ) → parser_view m pending ≡ Some now.parser → Gives given m pending (take n (take most bytes)) None)
      → (play x.term (take n bytes)).console ≡ now.terminal
  none_console gives =
      let all = led x given (take n bytes) None now.parser state same is.state long alone
      (subst (λ l. Gives given (mode_of x.term) x.term.pending l None) taken (gives (mode_of x.term) x.term.pending is.state))
      (subst (λ l. Leads now.parser given l state) taken leads) in
      sym (ap (λ t. t.console) (plays_term x (take n bytes))) ∙ all.came.console ∙ is.console
