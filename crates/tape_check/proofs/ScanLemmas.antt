-- What bytes do to a scan, by what the parser tells of them.
use Rattle.std.proofs.Common.{◌≡◌, ℕ, ◌==◌, Bool, true, false, cond, List, [], ◌∷◌, ◌++◌, refl, sym, ap, ◌∙◌, subst, inl, inr, append_assoc}
use Rattle.std.specs.Prelude.{Option, Some, None, fold}
use Rattle.std.specs.List.{list_all}
use Rattle.std.proofs.lemmas.Bool.{cases_Bool, and_parts, false≢true}
use Rattle.std.proofs.lemmas.List.{append-nil}
use Rattle.vt_parser.specs.declared.commands.Mode.{Mode}
use Rattle.vt_parser.specs.declared.commands.Command.{Command}
use Rattle.vt_parser.specs.declared.commands.Command.TheVariants as commands
use Rattle.vt_parser.specs.declared.states.ParserState.{ParserState}
use Rattle.vt_parser.specs.declared.states.Formless.{Formless}
use Rattle.vt_parser.specs.declared.commands.Token.{Token}
use Rattle.vt_parser.specs.declared.commands.Token.TheVariants.{Show}
use Rattle.vt_parser.specs.Syntax.{escape, is_graphic}
use Rattle.vt_parser.specs.View.{parser_view}
use Rattle.vt_parser.specs.Step.{command_of, pending_after, mode_after}
use Rattle.vt_parser.specs.Fold.{mode_after_bytes, pending_after_bytes, Gives}
use Rattle.vt_parser.specs.Formless.{formless_of, NoneEndsBehind}
use Rattle.vt_parser.specs.Token.{command_of_token, TellsOf}
use Rattle.vt_parser.specs.Law.{is_sequence}
use Rattle.vt_term.specs.declared.profile.Profile.{Profile}
use Rattle.vt_term.specs.Console.{Console, effect_of}
use Rattle.vt_term.specs.Effect.{effect}
use Rattle.vt_term.specs.Term.{mode_of, play, step}
use Rattle.vt_term.specs.Played.{mode_left}
use Rattle.tape_check.specs.declared.played.PlayedAs.TheVariants.{Vt}
use Rattle.tape_check.specs.Unplayed.{command_names, formless_names}
use Rattle.tape_check.specs.Scan.{Scan, mode_left_by, scan_step, names_at, names_in, ScanFollowsPlay}
use Rattle.vt_parser.proofs.Agrees.{ground_is_empty}
use Rattle.vt_parser.proofs.LawLemmas.{finished_leaves_nothing, graphic_is_shown}
use Rattle.vt_term.proofs.Rowless.{mode_goes_alone}

-- ---- the law

mode_by : (command : Option Command) (k : Console) → mode_left_by command k.modes.mode ≡ (effect_of effect command k).modes.mode
mode_by None k = refl
mode_by (Some command) k = sym (mode_goes_alone command k)

pub follows_play : ScanFollowsPlay
unfolding play
follows_play x s [] mode pending = (mode, pending)
follows_play x s (byte ∷ rest) mode pending =
    let same : command_of s.mode s.pending byte ≡ command_of (mode_of x) x.pending byte
    = ap (λ (m : Mode). command_of m s.pending byte) mode ∙ ap (λ (p : List ℕ). command_of (mode_of x) p byte) pending in
    follows_play (step x byte) (scan_step s byte) rest
    (ap (λ (c : Option Command). mode_left_by c s.mode) same ∙ ap (mode_left_by (command_of (mode_of x) x.pending byte)) mode
    ∙ mode_by (command_of (mode_of x) x.pending byte) x.console)
    (ap (λ (m : Mode). pending_after m s.pending byte) mode ∙ ap (λ (p : List ℕ). pending_after (mode_of x) p byte) pending)

-- ---- parts of a text

pub names_append : (profile : Profile) (s : Scan) (first second : List ℕ)
    → names_in profile s (first ++ second) ≡ names_in profile s first ++ names_in profile (fold scan_step s first) second
unfolding names_in
names_append profile s [] second = refl
names_append profile s (byte ∷ first) second =
    ap (λ (l : List (List ℕ)). names_at profile s byte ++ l) (names_append profile (scan_step s byte) first second)
    ∙ sym (append_assoc (names_at profile s byte) (names_in profile (scan_step s byte) first)
    (names_in profile (fold scan_step (scan_step s byte) first) second))

-- ---- bytes of one command

abbrev scan : Mode → List ℕ → Scan
scan mode pending = record { mode = mode; pending = pending }

pub mode_same : (m : Mode) (byte : ℕ) → mode_after m m byte ≡ m
mode_same m byte = same (byte == escape) m
  where
    same : (b : Bool) (m : Mode) → cond b m m ≡ m
    same true m = refl
    same false m = refl

pub mode_same_bytes : (m : Mode) (bytes : List ℕ) → mode_after_bytes m m bytes ≡ m
mode_same_bytes m [] = refl
mode_same_bytes m (byte ∷ rest) = ap (λ (n : Mode). mode_after_bytes m n rest) (mode_same m byte) ∙ mode_same_bytes m rest

-- bytes come to a command, or none, and the sequence without one that the first of them ends
pub record Comes (profile : Profile) (m : Mode) (pending : List ℕ) (byte : ℕ) (rest : List ℕ) (command : Option Command) : Type 0 where
  pub names : names_in profile (scan m pending) (byte ∷ rest) ≡ formless_names (formless_of m pending byte) ++ command_names (Vt profile) command
  pub scan_is : fold scan_step (scan m pending) (byte ∷ rest)
      ≡ scan (mode_left_by command m) (pending_after_bytes m m pending (byte ∷ rest))

comes_gives : (profile : Profile) (m : Mode) (pending : List ℕ) (byte : ℕ) (rest : List ℕ) (command : Option Command)
    → Gives m m pending (byte ∷ rest) command → NoneEndsBehind m m pending (byte ∷ rest) → Comes profile m pending byte rest command
unfolding names_in
comes_gives profile m pending byte [] command gives none = record {
  names = append-nil (formless_names (formless_of m pending byte) ++ command_names (Vt profile) (command_of m pending byte))
      ∙ ap (λ (c : Option Command). formless_names (formless_of m pending byte) ++ command_names (Vt profile) c) gives;
  scan_is = ap (λ (c : Option Command). scan (mode_left_by c m) (pending_after m pending byte)) gives;
}
comes_gives profile m pending byte (next ∷ rest) command gives none =
    let after = pending_after m pending byte in
    let same = mode_same m byte in
    let more = comes_gives profile m after next rest command
    (subst (λ (n : Mode). Gives m n after (next ∷ rest) command) same gives.1)
    (subst (λ (n : Mode). NoneEndsBehind m n after (next ∷ rest)) same none.1) in
    let ends : formless_of m after next ≡ None = subst (λ (n : Mode). formless_of n after next ≡ None) same none.0 in
    let form = formless_names (formless_of m pending byte) in
    record {
      names = ap (λ (c : Option Command). (form ++ command_names (Vt profile) c) ++ names_in profile (scan (mode_left_by c m) after) (next ∷ rest)) gives.0
          ∙ ap (λ (l : List (List ℕ)). l ++ names_in profile (scan m after) (next ∷ rest)) (append-nil form)
          ∙ ap (λ (l : List (List ℕ)). form ++ l) (more.names ∙ ap (λ (f : Option Formless). formless_names f ++ command_names (Vt profile) command) ends);
      scan_is = ap (λ (c : Option Command). fold scan_step (scan (mode_left_by c m) after) (next ∷ rest)) gives.0 ∙ more.scan_is
          ∙ ap (λ (n : Mode). scan (mode_left_by command m) (pending_after_bytes m n after (next ∷ rest))) (sym same);
    }

-- the command of a token, if there is one
abbrev pub told : Option Token → Option Command
told None = None
told (Some token) = Some (command_of_token token)

-- ---- runs

comes_run : (profile : Profile) (m : Mode) (byte : ℕ) (rest : List ℕ) (shown : ℕ) → list_all is_graphic (byte ∷ rest) ≡ true
    → NoneEndsBehind m m [] (byte ∷ rest) → Comes profile m [] byte rest (Some (commands.Show shown))
unfolding names_in
comes_run profile m byte [] shown graphic none =
    let given = graphic_is_shown m byte (and_parts (is_graphic byte) true graphic).0 in record {
      names = append-nil (formless_names (formless_of m [] byte) ++ command_names (Vt profile) (command_of m [] byte))
          ∙ ap (λ (c : Option Command). formless_names (formless_of m [] byte) ++ command_names (Vt profile) c) given.0;
      scan_is = ap (λ (c : Option Command). scan (mode_left_by c m) (pending_after m [] byte)) given.0;
    }
comes_run profile m byte (next ∷ rest) shown graphic none =
    let parts = and_parts (is_graphic byte) (list_all is_graphic (next ∷ rest)) graphic in
    let given = graphic_is_shown m byte parts.0 in
    let same = mode_same m byte in
    let behind : NoneEndsBehind m m [] (next ∷ rest)
    = subst (λ (p : List ℕ). NoneEndsBehind m m p (next ∷ rest)) given.1
    (subst (λ (n : Mode). NoneEndsBehind m n (pending_after m [] byte) (next ∷ rest)) same none.1) in
    let ends : formless_of m [] next ≡ None
    = subst (λ (p : List ℕ). formless_of m p next ≡ None) given.1
    (subst (λ (n : Mode). formless_of n (pending_after m [] byte) next ≡ None) same none.0) in
    let more = comes_run profile m next rest shown parts.1 behind in
    let form = formless_names (formless_of m [] byte) in
    record {
      names = ap (λ (c : Option Command). (form ++ command_names (Vt profile) c)
          ++ names_in profile (scan (mode_left_by c m) (pending_after m [] byte)) (next ∷ rest)) given.0
          ∙ ap (λ (p : List ℕ). (form ++ []) ++ names_in profile (scan m p) (next ∷ rest)) given.1
          ∙ ap (λ (l : List (List ℕ)). l ++ names_in profile (scan m []) (next ∷ rest)) (append-nil form)
          ∙ ap (λ (l : List (List ℕ)). form ++ l) (more.names ∙ ap (λ (f : Option Formless). formless_names f ++ []) ends);
      scan_is = ap (λ (c : Option Command). fold scan_step (scan (mode_left_by c m) (pending_after m [] byte)) (next ∷ rest)) given.0
          ∙ ap (λ (p : List ℕ). fold scan_step (scan m p) (next ∷ rest)) given.1 ∙ more.scan_is
          ∙ ap (λ (p : List ℕ). scan m (pending_after_bytes m m p (next ∷ rest))) (sym given.1)
          ∙ ap (λ (n : Mode). scan m (pending_after_bytes m n (pending_after m [] byte) (next ∷ rest))) (sym same);
    }

-- ---- any token

pub comes_told : (profile : Profile) (m : Mode) (pending : List ℕ) (byte : ℕ) (rest : List ℕ) (token : Option Token)
    → TellsOf m m pending (byte ∷ rest) token → NoneEndsBehind m m pending (byte ∷ rest) → Comes profile m pending byte rest (told token)
comes_told profile m pending byte rest None tells none = comes_gives profile m pending byte rest None tells none
comes_told profile m pending byte rest (Some (Show run)) tells none =
    subst (λ (p : List ℕ). Comes profile m p byte rest (told (Some (Show run)))) (sym tells.ground)
    (comes_run profile m byte rest _ tells.graphic (subst (λ (p : List ℕ). NoneEndsBehind m m p (byte ∷ rest)) tells.ground none))
comes_told profile m pending byte rest (Some token) tells none =
    comes_gives profile m pending byte rest (Some (command_of_token token)) tells none

-- ---- the mode and the state

gives_leaves : (m : Mode) (pending : List ℕ) (byte : ℕ) (rest : List ℕ) (command : Command)
    → Gives m m pending (byte ∷ rest) (Some command) → is_sequence command ≡ true → pending_after_bytes m m pending (byte ∷ rest) ≡ []
gives_leaves m pending byte [] command gives is = finished_leaves_nothing m pending byte command gives is
gives_leaves m pending byte (next ∷ rest) command gives is =
    let after = pending_after m pending byte in
    let same = mode_same m byte in
    ap (λ (n : Mode). pending_after_bytes m n after (next ∷ rest)) same
    ∙ gives_leaves m after next rest command (subst (λ (n : Mode). Gives m n after (next ∷ rest) (Some command)) same gives.1) is

mode_kept : (command : Command) (m : Mode) → is_sequence command ≡ false → mode_left command m ≡ m
mode_kept (commands.Show byte) m is = refl
mode_kept commands.Error m is = refl
mode_kept (commands.Control byte) m is = refl
mode_kept _ m is = absurd (false≢true (sym is))

view_given : (m : Mode) (pending : List ℕ) (byte : ℕ) (rest : List ℕ) (command : Command) (state : ParserState)
    → Gives m m pending (byte ∷ rest) (Some command)
    → parser_view m (pending_after_bytes m m pending (byte ∷ rest)) ≡ Some state
    → parser_view (mode_left command m) (pending_after_bytes m m pending (byte ∷ rest)) ≡ Some state
view_given m pending byte rest command state gives view =
    elim (cases_Bool (is_sequence command)) [
      | inl is ↦
          let none = gives_leaves m pending byte rest command gives is in
          ap (parser_view (mode_left command m)) none ∙ ground_is_empty.0 (mode_left command m)
          ∙ sym (ground_is_empty.0 m) ∙ ap (parser_view m) (sym none) ∙ view
      | inr other ↦
          ap (λ (n : Mode). parser_view n (pending_after_bytes m m pending (byte ∷ rest))) (mode_kept command m other) ∙ view
    ]

pub view_told : (m : Mode) (pending : List ℕ) (byte : ℕ) (rest : List ℕ) (token : Option Token) (state : ParserState)
    → TellsOf m m pending (byte ∷ rest) token
    → parser_view m (pending_after_bytes m m pending (byte ∷ rest)) ≡ Some state
    → parser_view (mode_left_by (told token) m) (pending_after_bytes m m pending (byte ∷ rest)) ≡ Some state
view_told m pending byte rest None state tells view = view
view_told m pending byte rest (Some (Show run)) state tells view = view
view_told m pending byte rest (Some token) state tells view = view_given m pending byte rest (command_of_token token) state tells view
