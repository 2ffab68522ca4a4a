-- What bytes bring that a printer writes.
use Rattle.std.proofs.Common.{◌≡◌, ℕ, ◌++◌, List, [], ◌∷◌, Some, None, true, false, refl, sym, ap, subst, ◌∙◌}
use Rattle.std.proofs.lemmas.Bool.{and_parts}
use Rattle.std.proofs.lemmas.List.{append-nil}
use Rattle.std.specs.List.{list_all}
use Rattle.vt_parser.specs.declared.commands.Mode.{Mode}
use Rattle.vt_parser.specs.declared.commands.Mode.TheVariants.{Ansi}
use Rattle.vt_parser.specs.declared.commands.Command.{Command}
use Rattle.vt_parser.specs.declared.commands.Command.TheVariants.{Show, Control, Esc, Csi}
use Rattle.vt_parser.specs.Syntax.{escape, is_graphic}
use Rattle.vt_parser.specs.Forms.{held}
use Rattle.vt_parser.specs.Decimals.{params_text}
use Rattle.vt_parser.specs.Fold.{Finishes}
use Rattle.vt_parser.proofs.LawLemmas.{graphic_is_shown, control_is_given}
use Rattle.vt_parser.proofs.Whole.{escape_finishes, designation_finishes}
use Rattle.vt_parser.proofs.Written.{written_sequences_finish, written_privates_finish}
use Rattle.vt_term.specs.Console.{Console}
use Rattle.vt_term.specs.Effect.{effect, reply, glyph_shown, glyph_for}
use Rattle.vt_term.specs.Term.{Term, play, sent}
use Rattle.vt_term.specs.Printing.{on_ground, Brings, NothingBrings, PartsBring, CharactersBring, ControlsBring, EscapesBring, DesignationsBring, ControlSequencesBring, PrivateSequencesBring}
use Rattle.vt_term.proofs.Steps.{played, plays_in_parts, sends_in_parts}

pub nothing_brings : NothingBrings
unfolding play sent
nothing_brings s = record { played = λ reports. refl; silent = λ reports. refl }

pub parts_bring : PartsBring
parts_bring s t u first second before after = record {
  played = λ reports.
      plays_in_parts (on_ground s reports) first second
      ∙ ap (λ (x : Term). play x second) (before.played reports)
      ∙ after.played reports;
  silent = λ reports.
      sends_in_parts (on_ground s reports) first second
      ∙ ap (λ (l : List ℕ). l ++ sent (play (on_ground s reports) first) second) (before.silent reports)
      ∙ ap (λ (x : Term). sent x second) (before.played reports)
      ∙ after.silent reports;
}

-- ---- one command

-- a whole sequence has the effect of its command once, and its reply is sent
acts : (s : Console) (reports bytes : List ℕ) (command : Command) → Finishes s.modes.mode bytes (Some command)
    → (play (on_ground s reports) bytes ≡ on_ground (effect command s) (reports ++ reply command s))
    × (sent (on_ground s reports) bytes ≡ reply command s)
acts s reports bytes command finishes =
    let mode = s.modes.mode in
    let after = played mode mode s [] reports bytes (Some command) refl refl (finishes mode).0 in
    (after.0 ∙ ap (λ (p : List ℕ). let x : Term = record { console = effect command s; pending = p; reports = reports ++ reply command s } in x) (finishes mode).1, after.1)

-- a command without a reply
pub brings_effect : (s : Console) (bytes : List ℕ) (command : Command) → Finishes s.modes.mode bytes (Some command) → reply command s ≡ []
    → Brings s bytes (effect command s)
brings_effect s bytes command finishes silent = record {
  played = λ reports.
      (acts s reports bytes command finishes).0
      ∙ ap (λ (l : List ℕ). on_ground (effect command s) (reports ++ l)) silent
      ∙ ap (on_ground (effect command s)) (append-nil reports);
  silent = λ reports. (acts s reports bytes command finishes).1 ∙ silent;
}

-- the same in ANSI mode
brings_in_ansi : (s : Console) (bytes : List ℕ) (command : Command) → s.modes.mode ≡ Ansi → Finishes Ansi bytes (Some command) → reply command s ≡ []
    → Brings s bytes (effect command s)
brings_in_ansi s bytes command ansi finishes silent =
    brings_effect s bytes command (subst (λ (m : Mode). Finishes m bytes (Some command)) (sym ansi) finishes) silent

pub characters_bring : CharactersBring
unfolding effect reply
characters_bring s [] graphic = nothing_brings s
characters_bring s (byte ∷ bytes) graphic =
    let parts = and_parts (is_graphic byte) (list_all is_graphic bytes) graphic in
    parts_bring s _ _ (byte ∷ []) bytes (brings_effect s (byte ∷ []) (Show byte) (λ mode. graphic_is_shown mode byte parts.0) refl)
    (characters_bring (glyph_shown (glyph_for s byte) s) bytes parts.1)

pub controls_bring : ControlsBring
unfolding reply
controls_bring s byte is = brings_effect s (byte ∷ []) (Control byte) (λ mode. control_is_given mode byte is) refl

pub escapes_bring : EscapesBring
unfolding effect reply
escapes_bring s last ansi is no_control no_string silent =
    brings_in_ansi s (escape ∷ last ∷ []) (Esc None last) ansi (escape_finishes last is no_control no_string) silent

pub designations_bring : DesignationsBring
unfolding effect reply
designations_bring s inter last ansi is_inter is silent =
    brings_in_ansi s (escape ∷ inter ∷ last ∷ []) (Esc (Some inter) last) ansi (designation_finishes inter last is_inter is) silent

pub control_sequences_bring : ControlSequencesBring
unfolding effect reply
control_sequences_bring s numbers last ansi are is silent =
    brings_in_ansi s (escape ∷ 91 ∷ (params_text numbers ++ last ∷ [])) (Csi false (held numbers) last) ansi (written_sequences_finish numbers last are is) silent

pub private_sequences_bring : PrivateSequencesBring
unfolding effect reply
private_sequences_bring s numbers last ansi are is =
    brings_in_ansi s (escape ∷ 91 ∷ 63 ∷ (params_text numbers ++ last ∷ [])) (Csi true (held numbers) last) ansi (written_privates_finish numbers last are is) refl
