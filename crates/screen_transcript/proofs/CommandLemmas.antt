-- Bytes that give one command with their last, or none.
use Rattle.std.proofs.Common.{◌≡◌, ℕ, Bool, true, false, cond, List, [], ◌∷◌, ◌++◌, refl, sym, ap, ◌∙◌, subst, append-nil}
use Rattle.std.specs.Prelude.{Option, Some, None}
use Rattle.vt_parser.specs.declared.commands.Mode.{Mode}
use Rattle.vt_parser.specs.declared.commands.Command.{Command}
use Rattle.vt_parser.specs.declared.syntax.Action.{Action}
use Rattle.vt_parser.specs.declared.syntax.Action.TheVariants.{Ignore, Execute, Print, Mark, Begin, Join, End, Cancel}
use Rattle.vt_parser.specs.Syntax.{action_of}
use Rattle.vt_parser.specs.Forms.{is_whole, meaning}
use Rattle.vt_parser.specs.Step.{command_by, command_of, context_of, pending_after, pending_by}
use Rattle.vt_parser.specs.Fold.{Gives, pending_after_bytes}
use Rattle.vt_term.specs.Console.{Console, effect_of}
use Rattle.vt_term.specs.Replies.{reply_of}
use Rattle.vt_term.specs.Effect.{effect, reply}
use Rattle.vt_term.specs.Term.{mode_of}
use Rattle.screen_transcript.specs.Home.{acts, is_empty, went_home}
use Rattle.screen_transcript.specs.Leaving.{rows_of}
use Rattle.screen_transcript.specs.Transcribed.{Transcribed, acts_at, left, leaving_by, play_on, step_on}
use Rattle.screen_transcript.proofs.ViewLemmas.{mode_same, same}

-- by its parts
abbrev pub made : Console → List ℕ → List ℕ → Bool → Transcribed
made s pending reports home = record { term = record { console = s; pending = pending; reports = reports }; home = home }

-- ---- one byte

joined_acts : (b : Bool) (command : Command) (given : Option Command) (rest : List ℕ) → cond b given None ≡ Some command → is_empty (cond b [] rest) ≡ true
joined_acts true command given rest is = refl
joined_acts false command given rest is = absurd cc

acts_by : (action : Action) (mode : Mode) (pending : List ℕ) (byte : ℕ) (command : Command) → command_by action mode pending byte ≡ Some command
    → acts action (pending_by action mode pending byte) ≡ true
acts_by Ignore mode pending byte command is = absurd cc
acts_by Execute mode pending byte command is = refl
acts_by Print mode pending byte command is = refl
acts_by Mark mode pending byte command is = refl
acts_by Begin mode pending byte command is = absurd cc
acts_by Join mode pending byte command is =
    joined_acts (is_whole mode (pending ++ byte ∷ [])) command (meaning mode (pending ++ byte ∷ [])) (pending ++ byte ∷ []) is
acts_by End mode pending byte command is = absurd cc
acts_by Cancel mode pending byte command is = refl

-- a byte that gives a command acts
acts_given : (mode : Mode) (pending : List ℕ) (byte : ℕ) (command : Command) → command_of mode pending byte ≡ Some command
    → acts (action_of (context_of mode pending) byte) (pending_after mode pending byte) ≡ true
unfolding command_of pending_after
acts_given mode pending byte command is = acts_by (action_of (context_of mode pending) byte) mode pending byte command is

pub given_home : (s : Console) (p r : List ℕ) (h : Bool) (byte : ℕ) (command : Command) → command_of s.modes.mode p byte ≡ Some command
    → (step_on (made s p r h) byte).home ≡ went_home (Some command) (step_on (made s p r h) byte).term.console.picture
given_home s p r h byte command is =
    let x = made s p r h in
    let q = (step_on x byte).term.console.picture in
    ap (λ b. cond b (went_home (command_of s.modes.mode p byte) q) h) (acts_given s.modes.mode p byte command is)
    ∙ ap (λ (c : Option Command). went_home c q) is

pub none_home : (s : Console) (p r : List ℕ) (h : Bool) (byte : ℕ) → command_of s.modes.mode p byte ≡ None
    → (step_on (made s p r h) byte).home ≡ cond (acts_at (made s p r h).term byte) false h
none_home s p r h byte is =
    let x = made s p r h in
    ap (λ (c : Option Command). cond (acts_at x.term byte) (went_home c (step_on x byte).term.console.picture) h) is

-- elsewhere a byte without a command leaves all but what is pending
step_none : (s : Console) (p r : List ℕ) (byte : ℕ) → command_of s.modes.mode p byte ≡ None
    → step_on (made s p r false) byte ≡ made s (pending_after s.modes.mode p byte) (r ++ []) false
step_none s p r byte none =
    let acting = acts_at (made s p r false).term byte in
    let after = pending_after s.modes.mode p byte in
    ap (λ (c : Option Command). made (effect_of effect c s) after (r ++ reply_of reply c s) (cond acting (went_home c (effect_of effect c s).picture) false)) none
    ∙ ap (made s after (r ++ [])) (same acting false)

-- ---- many bytes

-- rows leave at the last of them, by the picture before them
pub record Came (x : Transcribed) (bytes : List ℕ) (command : Option Command) : Type 0 where
  pub rows : left x bytes ≡ rows_of (leaving_by command x.home x.term.console.picture) x.term.console.picture
  pub pending : (play_on x bytes).term.pending ≡ pending_after_bytes (mode_of x.term) (mode_of x.term) x.term.pending bytes
  pub console : (play_on x bytes).term.console ≡ effect_of effect command x.term.console
  pub given : (it : Command) → command ≡ Some it → (play_on x bytes).home ≡ went_home (Some it) (play_on x bytes).term.console.picture
  pub none : command ≡ None → x.home ≡ false → (play_on x bytes).home ≡ false

pub came : (s : Console) (p r : List ℕ) (h : Bool) (byte : ℕ) (rest : List ℕ) (command : Option Command)
    → (h ≡ true → rest ≡ []) → Gives s.modes.mode s.modes.mode p (byte ∷ rest) command → Came (made s p r h) (byte ∷ rest) command
unfolding left play_on
came s p r h byte [] command one gives = record {
  rows = append-nil (rows_of (leaving_by (command_of s.modes.mode p byte) h s.picture) s.picture)
      ∙ ap (λ (c : Option Command). rows_of (leaving_by c h s.picture) s.picture) gives;
  pending = refl;
  console = ap (λ (c : Option Command). effect_of effect c s) gives;
  given = λ it is. given_home s p r h byte it (gives ∙ is);
  none = λ is off. none_home s p r h byte (gives ∙ is) ∙ ap (cond (acts_at (made s p r h).term byte) false) off ∙ same (acts_at (made s p r h).term byte) false;
}
came s p r true byte (next ∷ rest) command one gives = absurd (let none = one refl in cc)
came s p r false byte (next ∷ rest) command one gives =
    let m = s.modes.mode in
    let after = pending_after m p byte in
    let x = made s p r false in
    let more = came s after (r ++ []) false next rest command (λ is. absurd cc)
    (subst (λ (n : Mode). Gives m n after (next ∷ rest) command) (mode_same m byte) gives.1) in
    let stepped = step_none s p r byte gives.0 in
    record {
      rows = ap (λ (c : Option Command). rows_of (leaving_by c false s.picture) s.picture ++ left (step_on x byte) (next ∷ rest)) gives.0
          ∙ ap (λ (y : Transcribed). left y (next ∷ rest)) stepped ∙ more.rows;
      pending = ap (λ (y : Transcribed). (play_on y (next ∷ rest)).term.pending) stepped ∙ more.pending
          ∙ ap (λ (n : Mode). pending_after_bytes m n after (next ∷ rest)) (sym (mode_same m byte));
      console = ap (λ (y : Transcribed). (play_on y (next ∷ rest)).term.console) stepped ∙ more.console;
      given = λ it is.
          subst (λ (y : Transcribed). (play_on y (next ∷ rest)).home ≡ went_home (Some it) (play_on y (next ∷ rest)).term.console.picture)
          (sym stepped) (more.given it is);
      none = λ is off. ap (λ (y : Transcribed). (play_on y (next ∷ rest)).home) stepped ∙ more.none is refl;
    }
