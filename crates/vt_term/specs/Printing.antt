-- What bytes do that a printer writes, each where nothing is pending.
use Rattle.std.specs.Prelude.{◌≡◌, ℕ, true, false, List, [], ◌∷◌, ◌++◌, map, Some, None}
use Rattle.std.specs.List.{list_all}
use Rattle.vt_parser.specs.declared.commands.Mode.TheVariants.{Ansi}
use Rattle.vt_parser.specs.declared.commands.Command.TheVariants.{Control}
use Rattle.vt_parser.specs.Syntax.{escape, is_graphic, is_within}
use Rattle.vt_parser.specs.Forms.{is_intermediate, is_escape_final, is_control_sequence_final, begins_control_sequence, begins_string}
use Rattle.vt_parser.specs.Decimals.{params_text}
use Rattle.vt_parser.specs.Law.{AreParams}
use Rattle.vt_term.specs.Console.{Console, effect_of}
use Rattle.vt_term.specs.Escapes.{escape_named, escape_effect}
use Rattle.vt_term.specs.Replies.{escape_reply, reply_of}
use Rattle.vt_term.specs.Effect.{effect, glyphs_shown, glyphs_written, glyph_for, control_sequence_effect, control_sequence_reply}
use Rattle.vt_term.specs.Term.{Term, play, sent}

-- a term with nothing pending
abbrev pub on_ground : Console → List ℕ → Term
on_ground s reports = record { console = s; pending = []; reports = reports }

-- The bytes lead from what is shown to what is shown then: nothing is pending before them or after them, and nothing
-- is sent.
pub record Brings (s : Console) (bytes : List ℕ) (t : Console) : Type 0 where
  pub played : (reports : List ℕ) → play (on_ground s reports) bytes ≡ on_ground t reports
  pub silent : (reports : List ℕ) → sent (on_ground s reports) bytes ≡ []

-- No bytes bring nothing, and joined texts bring what their parts do in turn.
abbrev pub NothingBrings : Type 0
NothingBrings = (s : Console) → Brings s [] s

abbrev pub PartsBring : Type 0
PartsBring =
    (s t u : Console) (first second : List ℕ) → Brings s first t → Brings t second u → Brings s (first ++ second) u

-- Graphic characters are put as their glyphs, one after another.
abbrev pub CharactersBring : Type 0
CharactersBring =
    (s : Console) (bytes : List ℕ) → list_all is_graphic bytes ≡ true
    → Brings s bytes (glyphs_shown (map (glyph_for s) bytes) s)

-- Outside insert mode each takes the place of the one that stands there.
abbrev pub GlyphsAreWritten : Type 0
GlyphsAreWritten =
    (s : Console) (glyphs : List ℕ) → s.modes.insert ≡ false → glyphs_shown glyphs s ≡ glyphs_written glyphs s

-- A control has its effect.
abbrev pub ControlsBring : Type 0
ControlsBring = (s : Console) (byte : ℕ) → is_within 8 15 byte ≡ true → Brings s (byte ∷ []) (effect (Control byte) s)

-- A whole sequence without a reply has the effect of its command once: ESC and a final byte ..
abbrev pub EscapesBring : Type 0
EscapesBring =
    (s : Console) (last : ℕ) → s.modes.mode ≡ Ansi
    → is_escape_final last ≡ true → begins_control_sequence last ≡ false → begins_string last ≡ false
    → reply_of escape_reply (escape_named None last) s ≡ []
    → Brings s (escape ∷ last ∷ []) (effect_of escape_effect (escape_named None last) s)

-- .. or with an intermediate byte between them, ..
abbrev pub DesignationsBring : Type 0
DesignationsBring =
    (s : Console) (inter last : ℕ) → s.modes.mode ≡ Ansi → is_intermediate inter ≡ true → is_escape_final last ≡ true
    → reply_of escape_reply (escape_named (Some inter) last) s ≡ []
    → Brings s (escape ∷ inter ∷ last ∷ []) (effect_of escape_effect (escape_named (Some inter) last) s)

-- .. ESC [, numbers in decimal and a final byte, ..
abbrev pub ControlSequencesBring : Type 0
ControlSequencesBring =
    (s : Console) (numbers : List ℕ) (last : ℕ) → s.modes.mode ≡ Ansi → AreParams numbers
    → is_control_sequence_final last ≡ true
    → control_sequence_reply false last numbers s ≡ []
    → Brings s (escape ∷ 91 ∷ (params_text numbers ++ last ∷ [])) (control_sequence_effect false last numbers s)  -- [

-- .. and the same with `?` before the numbers, which never has a reply.
abbrev pub PrivateSequencesBring : Type 0
PrivateSequencesBring =
    (s : Console) (numbers : List ℕ) (last : ℕ) → s.modes.mode ≡ Ansi → AreParams numbers
    → is_control_sequence_final last ≡ true
    → Brings s (escape ∷ 91 ∷ 63 ∷ (params_text numbers ++ last ∷ []))  -- [ ?
    (control_sequence_effect true last numbers s)
