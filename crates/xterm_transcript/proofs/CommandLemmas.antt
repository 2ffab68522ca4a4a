-- Bytes that give one command with their last, or none.
use Rattle.std.proofs.Common.{◌≡◌, ℕ, Bool, true, false, not, cond, List, [], ◌∷◌, ◌++◌, drop, refl, sym, ap, ap₂, ◌∙◌, subst, append-nil, inl, inr, ◌&&◌, nat_le}
use Rattle.std.specs.Prelude.{Option, Some, None}
use Rattle.std.specs.List.{list_all}
use Rattle.std.proofs.lemmas.Bool.{and_parts, cases_Bool}
use Rattle.vt_parser.specs.declared.commands.Mode.TheVariants.{Ansi}
use Rattle.vt_parser.specs.declared.commands.Command.{Command}
use Rattle.vt_parser.specs.declared.commands.Command.TheVariants.{Show, Error, Control, Esc, Csi, Vt52, Vt52Address}
use Rattle.vt_parser.specs.declared.syntax.Action.{Action}
use Rattle.vt_parser.specs.declared.syntax.Action.TheVariants.{Ignore, Execute, Print, Mark, Begin, Join, End, Cancel}
use Rattle.vt_parser.specs.Syntax.{action_of, escape, is_graphic, is_within}
use Rattle.vt_parser.specs.Forms.{after_mark, escape_meaning, final, front, held, is_control_sequence_begun, is_private, is_well_formed, is_whole, meaning, params}
use Rattle.vt_parser.specs.Step.{command_by, command_of, context_of, pending_after, pending_by}
use Rattle.vt_parser.specs.Fold.{Gives, pending_after_bytes}
use Rattle.vt_parser.proofs.LawLemmas.{graphic_is_shown}
use Rattle.xterm_screen.specs.Picture.{Picture}
use Rattle.xterm_term.specs.Console.{Console}
use Rattle.xterm_term.specs.Effect.{effect, reply}
use Rattle.xterm_term.specs.Replies.{reply_of}
use Rattle.xterm_term.specs.Rows.{effect_of}
use Rattle.xterm_term.specs.Term.{Outcome, ends_last, forgotten_if, is_ground, syntax_read}
use Rattle.xterm_term.proofs.Runs.{stepped}
use Rattle.xterm_term.proofs.Taken.{IsNoShow, begins_sequence, ends_here, gives_on, no_upper, pending_on, read_here}
use Rattle.xterm_transcript.specs.Home.{acts, is_home, places, went_home}
use Rattle.xterm_transcript.specs.Playing.{after_acting, after_command, after_placing, home_by}
use Rattle.xterm_transcript.specs.Transcribed.{Coming, Transcribed, acts_at, coming_of, left, play_on, read_coming, rows_by, step_on, syntax_coming}

-- by its parts, no character begun
abbrev pub made : Console → List ℕ → List ℕ → Bool → Transcribed
made s sequence reports home =
    record { term = record { console = s; sequence = sequence; character = []; reports = reports }; home = home }

pub at_made : (x : Transcribed) → x.term.character ≡ [] → x ≡ made x.term.console x.term.sequence x.term.reports x.home
at_made x none =
    ap (λ (c : List ℕ). record {
      term = record { console = x.term.console; sequence = x.term.sequence; character = c; reports = x.term.reports };
      home = x.home;
    })
    none

-- ---- one byte

pub syntax_comes : (h : Bool) (s : Console) (p : List ℕ) (byte : ℕ) → s.title ≡ false → (is_ground p && nat_le 128 byte) ≡ false
    → coming_of h s p [] byte ≡ syntax_coming h s p byte
unfolding coming_of read_coming
syntax_comes h s p byte title low = simp (title, low)

-- a step, by both
abbrev stepped_on : List ℕ → Outcome → Coming → Transcribed
stepped_on reports o coming = record { term = stepped reports o; home = coming.home }

pub step_is : (s : Console) (p r : List ℕ) (h : Bool) (byte : ℕ) → s.title ≡ false → (is_ground p && nat_le 128 byte) ≡ false
    → step_on (made s p r h) byte ≡ stepped_on r (syntax_read s p byte) (syntax_coming h s p byte)
step_is s p r h byte title low = ap₂ (stepped_on r) (read_here s p byte title low) (syntax_comes h s p byte title low)

pub same : {X : Type 0} (b : Bool) (x : X) → cond b x x ≡ x
same true x = refl
same false x = refl

-- elsewhere a byte without a command, behind which something is pending, leaves all but what is pending
pub step_none : (s : Console) (p r : List ℕ) (byte : ℕ) → s.title ≡ false → (is_ground p && nat_le 128 byte) ≡ false
    → command_of Ansi p byte ≡ None → ends_last p byte ≡ false → step_on (made s p r false) byte ≡ made s (pending_after Ansi p byte) (r ++ []) false
step_none s p r byte title low none goes =
    let after = pending_after Ansi p byte in
    step_is s p r false byte title low
    ∙ ap₂ (λ (c : Option Command) (ends : Bool).
    made (forgotten_if ends (effect_of effect c s)) after (r ++ reply_of reply c s)
    (cond (acts_at p byte) (went_home c (forgotten_if ends (effect_of effect c s)).picture) false)) none goes
    ∙ ap (made s after (r ++ [])) (same (acts_at p byte) false)

-- ---- whether what comes next comes directly behind home

abbrev IsNoError : Command → Type 0
IsNoError Error = ⊥
IsNoError _ = Unit {0}

placing : (b h : Bool) (p : Picture) → b && is_home p ≡ home_by (after_placing b) h p
placing true h p = refl
placing false h p = refl

placed : (it : Command) (h : Bool) (p : Picture) → IsNoError it → places it && is_home p ≡ home_by (after_command it) h p
placed Error h p none = absurd none
placed (Show byte) h p none = refl
placed (Control byte) h p none = refl
placed (Esc inter last) h p none = refl
placed (Csi private numbers last) h p none = placing (places (Csi private numbers last)) h p
placed (Vt52 last) h p none = refl
placed (Vt52Address line column) h p none = refl

control_no_error : (b : Bool) (byte : ℕ) (it : Command) → (cond b (Some (Control byte)) None) ≡ Some it → IsNoError it
control_no_error true byte it is = let same_ : Control byte ≡ it = cc in subst IsNoError same_ tt
control_no_error false byte it is = absurd cc

csi_no_error : (b : Bool) (one it : Command) → IsNoError one → cond b (Some one) None ≡ Some it → IsNoError it
csi_no_error true one it none is = let same_ : one ≡ it = cc in subst IsNoError same_ none
csi_no_error false one it none is = absurd cc

escape_no_error : (inters : List ℕ) (last : ℕ) (it : Command) → escape_meaning inters last ≡ Some it → IsNoError it
escape_no_error [] last it is = let same_ : Esc None last ≡ it = cc in subst IsNoError same_ tt
escape_no_error (inter ∷ []) last it is = let same_ : Esc (Some inter) last ≡ it = cc in subst IsNoError same_ tt
escape_no_error (inter ∷ next ∷ rest) last it is = absurd cc

either_no_error : (b : Bool) (one other : Option Command) (it : Command) → (one ≡ Some it → IsNoError it) → (other ≡ Some it → IsNoError it)
    → cond b one other ≡ Some it → IsNoError it
either_no_error true one other it first second is = first is
either_no_error false one other it first second is = second is

meaning_no_error : (bytes : List ℕ) (it : Command) → meaning Ansi bytes ≡ Some it → IsNoError it
unfolding meaning
meaning_no_error bytes it is =
    let text = drop 2 (front bytes) in
    either_no_error (is_control_sequence_begun (front bytes)) _ _ it
    (λ one. csi_no_error (is_well_formed text) (Csi (is_private text) (held (params (after_mark text))) (final bytes)) it tt one)
    (λ other. escape_no_error (drop 1 (front bytes)) (final bytes) it other) is

joined_home : (b : Bool) (p rest : List ℕ) (given : Option Command) (it : Command) (h : Bool) (q : Picture) → (given ≡ Some it → IsNoError it)
    → cond b given None ≡ Some it
    → cond (is_ground (cond b [] rest)) (went_home (Some it) q) h ≡ home_by (after_command it) h q
joined_home true p rest given it h q none is = placed it h q (none is)
joined_home false p rest given it h q none is = absurd cc

home_given : (a : Action) (p : List ℕ) (byte : ℕ) (it : Command) (h : Bool) (q : Picture) → command_by a Ansi p byte ≡ Some it
    → cond (acts a (pending_by a Ansi p byte)) (went_home (Some it) q) h ≡ home_by (after_command it) h q
home_given Ignore p byte it h q is = absurd cc
home_given Execute p byte it h q is = placed it h q (control_no_error (is_within 8 15 byte) byte it is)
home_given Print p byte it h q is = let same_ : Show byte ≡ it = cc in placed it h q (subst IsNoError same_ tt)
home_given Mark p byte it h q is = let same_ : Error ≡ it = cc in ap (λ (c : Command). home_by (after_command c) h q) same_
home_given Begin p byte it h q is = absurd cc
home_given Join p byte it h q is =
    joined_home (is_whole Ansi (p ++ byte ∷ [])) p (p ++ byte ∷ []) (meaning Ansi (p ++ byte ∷ [])) it h q (meaning_no_error (p ++ byte ∷ []) it) is
home_given End p byte it h q is = absurd cc
home_given Cancel p byte it h q is = let same_ : Error ≡ it = cc in ap (λ (c : Command). home_by (after_command c) h q) same_

pub command_home : (p : List ℕ) (byte : ℕ) (it : Command) (h : Bool) (q : Picture) → command_of Ansi p byte ≡ Some it
    → cond (acts_at p byte) (went_home (Some it) q) h ≡ home_by (after_command it) h q
unfolding command_of pending_after
command_home p byte it h q is = home_given (action_of (context_of Ansi p) byte) p byte it h q is

pub acting : (b h : Bool) (p : Picture) → cond b false h ≡ home_by (after_acting b) h p
acting true h p = refl
acting false h p = refl

-- ---- many bytes

-- rows leave at the last of them, by the console before them
pub record Came (x : Transcribed) (bytes : List ℕ) (command : Option Command) (after : List ℕ) (ends : Bool) : Type 0 where
  pub rows : left x bytes ≡ rows_by command x.home x.term.console
  pub console : (play_on x bytes).term.console ≡ forgotten_if ends (effect_of effect command x.term.console)
  pub sequence : (play_on x bytes).term.sequence ≡ after
  pub character : (play_on x bytes).term.character ≡ []
  pub given : (it : Command) → command ≡ Some it → (play_on x bytes).home ≡ home_by (after_command it) x.home (play_on x bytes).term.console.picture
  pub none : command ≡ None → x.home ≡ false → (play_on x bytes).home ≡ false

-- one
pub came_one : (s : Console) (p r : List ℕ) (h : Bool) (byte : ℕ) (command : Option Command) → s.title ≡ false
    → (is_ground p && nat_le 128 byte) ≡ false → command_of Ansi p byte ≡ command
    → Came (made s p r h) (byte ∷ []) command (pending_after Ansi p byte) (ends_last p byte)
unfolding left play_on
came_one s p r h byte command title low is =
    let stepped_is = step_is s p r h byte title low in
    let ends = ends_last p byte in
    let picture = (forgotten_if ends (effect_of effect (command_of Ansi p byte) s)).picture in
    record {
      rows = append-nil _ ∙ ap (λ (c : Coming). c.rows) (syntax_comes h s p byte title low) ∙ ap (λ (c : Option Command). rows_by c h s) is;
      console = ap (λ (y : Transcribed). y.term.console) stepped_is ∙ ap (λ (c : Option Command). forgotten_if ends (effect_of effect c s)) is;
      sequence = ap (λ (y : Transcribed). y.term.sequence) stepped_is;
      character = ap (λ (y : Transcribed). y.term.character) stepped_is;
      given = λ it some.
          ap (λ (y : Transcribed). y.home) stepped_is
          ∙ ap (λ (c : Option Command). cond (acts_at p byte) (went_home c picture) h) (is ∙ some)
          ∙ command_home p byte it h picture (is ∙ some)
          ∙ ap (λ (y : Transcribed). home_by (after_command it) h y.term.console.picture) (sym stepped_is);
      none = λ nothing off.
          ap (λ (y : Transcribed). y.home) stepped_is
          ∙ ap₂ (λ (c : Option Command) (b : Bool). cond (acts_at p byte) (went_home c picture) b) (is ∙ nothing) off
          ∙ same (acts_at p byte) false;
    }

-- one that gives nothing, and more behind it
came_more : (s : Console) (p r : List ℕ) (byte next : ℕ) (rest : List ℕ) (command : Option Command) (ends : Bool) → s.title ≡ false
    → (is_ground p && nat_le 128 byte) ≡ false → command_of Ansi p byte ≡ None → ends_last p byte ≡ false
    → Came (made s (pending_after Ansi p byte) (r ++ []) false) (next ∷ rest) command (pending_after_bytes Ansi Ansi (pending_after Ansi p byte) (next ∷ rest)) ends
    → Came (made s p r false) (byte ∷ next ∷ rest) command (pending_after_bytes Ansi Ansi p (byte ∷ next ∷ rest)) ends
unfolding left play_on
came_more s p r byte next rest command ends title low none goes more =
    let moved = step_none s p r byte title low none goes in
    let x = made s p r false in
    record {
      rows = ap (λ (c : Coming). c.rows ++ left (step_on x byte) (next ∷ rest)) (syntax_comes false s p byte title low)
          ∙ ap (λ (c : Option Command). rows_by c false s ++ left (step_on x byte) (next ∷ rest)) none
          ∙ ap (λ (y : Transcribed). left y (next ∷ rest)) moved ∙ more.rows;
      console = ap (λ (y : Transcribed). (play_on y (next ∷ rest)).term.console) moved ∙ more.console;
      sequence = ap (λ (y : Transcribed). (play_on y (next ∷ rest)).term.sequence) moved ∙ more.sequence ∙ sym (pending_on p (next ∷ rest) byte);
      character = ap (λ (y : Transcribed). (play_on y (next ∷ rest)).term.character) moved ∙ more.character;
      given = λ it is.
          subst (λ (y : Transcribed). (play_on y (next ∷ rest)).home ≡ home_by (after_command it) false (play_on y (next ∷ rest)).term.console.picture)
          (sym moved) (more.given it is);
      none = λ is off. ap (λ (y : Transcribed). (play_on y (next ∷ rest)).home) moved ∙ more.none is refl;
    }

-- on ground a graphic character would be shown
none_comes : (p rest : List ℕ) (byte : ℕ) (command : Option Command) → is_ground p ≡ true → is_graphic byte ≡ true
    → Gives Ansi Ansi p (byte ∷ rest) command → IsNoShow command → ⊥
none_comes [] [] byte command ground graphic gives none = subst IsNoShow (sym gives ∙ (graphic_is_shown Ansi byte graphic).0) none
none_comes [] (next ∷ rest) byte command ground graphic gives none =
    let shown = (graphic_is_shown Ansi byte graphic).0 in
    let silent = gives.0 in
    cc
none_comes (b ∷ p) rest byte command ground graphic gives none = cc

-- graphic characters behind what is pending
pub came_inside : (byte : ℕ) (rest : List ℕ) (s : Console) (p r : List ℕ) (command : Option Command) → s.title ≡ false → is_ground p ≡ false
    → list_all is_graphic (byte ∷ rest) ≡ true → Gives Ansi Ansi p (byte ∷ rest) command → IsNoShow command
    → Came (made s p r false) (byte ∷ rest) command (pending_after_bytes Ansi Ansi p (byte ∷ rest)) (is_ground (pending_after_bytes Ansi Ansi p (byte ∷ rest)))
came_inside byte [] s p r command title pending graphic gives none =
    let parts = and_parts (is_graphic byte) true graphic in
    subst (Came (made s p r false) (byte ∷ []) command (pending_after Ansi p byte)) (ends_here p byte pending parts.0)
    (came_one s p r false byte command title (no_upper p byte pending) gives)
came_inside byte (next ∷ rest) s p r command title pending graphic gives none =
    let parts = and_parts (is_graphic byte) (list_all is_graphic (next ∷ rest)) graphic in
    let after = pending_after Ansi p byte in
    let more = gives_on p (next ∷ rest) byte command gives.1 in
    elim (cases_Bool (is_ground after)) [
      | inl ended ↦ absurd (none_comes after rest next command ended (and_parts (is_graphic next) (list_all is_graphic rest) parts.1).0 more none)
      | inr goes ↦
          subst (λ (l : List ℕ). Came (made s p r false) (byte ∷ next ∷ rest) command (pending_after_bytes Ansi Ansi p (byte ∷ next ∷ rest)) (is_ground l))
          (sym (pending_on p (next ∷ rest) byte))
          (came_more s p r byte next rest command _ title (no_upper p byte pending) gives.0 (ends_here p byte pending parts.0 ∙ goes)
          (came_inside next rest s after (r ++ []) command title goes parts.1 more none))
    ]

-- ESC first
pub came_escape : (next : ℕ) (rest : List ℕ) (s : Console) (p r : List ℕ) (command : Option Command) → s.title ≡ false
    → list_all is_graphic (next ∷ rest) ≡ true → Gives Ansi Ansi p (escape ∷ next ∷ rest) command → IsNoShow command
    → Came (made s p r false) (escape ∷ next ∷ rest) command (pending_after_bytes Ansi Ansi p (escape ∷ next ∷ rest))
    (is_ground (pending_after_bytes Ansi Ansi p (escape ∷ next ∷ rest)))
came_escape next rest s p r command title graphic gives none =
    let pending = (begins_sequence p).1 in
    let goes : is_ground (pending_after Ansi p escape) ≡ false = ap is_ground pending in
    subst (λ (l : List ℕ). Came (made s p r false) (escape ∷ next ∷ rest) command (pending_after_bytes Ansi Ansi p (escape ∷ next ∷ rest)) (is_ground l))
    (sym (pending_on p (next ∷ rest) escape))
    (came_more s p r escape next rest command _ title (low_escape (is_ground p)) (begins_sequence p).0
    (ap (λ (l : List ℕ). not (is_ground p) && is_ground l) pending ∙ neither (not (is_ground p)))
    (came_inside next rest s (pending_after Ansi p escape) (r ++ []) command title goes graphic
    (gives_on p (next ∷ rest) escape command gives.1) none))
  where
    neither : (b : Bool) → (b && false) ≡ false
    neither true = refl
    neither false = refl

    low_escape : (b : Bool) → (b && nat_le 128 escape) ≡ false
    low_escape true = refl
    low_escape false = refl
