-- What the parser's state tells of the bytes that it shows.
use Rattle.std.proofs.Common.{◌≡◌, ℕ, Bool, true, false, not, List, [], ◌∷◌, refl, sym, ap, ap₂, ◌∙◌, ◌==◌, ◌&&◌, ◌||◌, arith}
use Rattle.std.specs.Prelude.{Some, None, if◌then◌else◌, drop}
use Rattle.std.proofs.lemmas.Bool.Decides.{nat_tests}
use Rattle.vt_parser.specs.declared.commands.Mode.{Mode}
use Rattle.vt_parser.specs.declared.commands.Mode.TheVariants.{Ansi}
use Rattle.vt_parser.specs.declared.states.ParserState.{ParserState}
use Rattle.vt_parser.specs.declared.states.ParserState.TheVariants.{Ground, CsiIgnored}
use Rattle.vt_parser.specs.Syntax.{escape}
use Rattle.vt_parser.specs.Forms.{is_string_begun, is_control_sequence_begun, is_escape_begun, is_well_formed}
use Rattle.vt_parser.specs.View.{parser_view, control_sequence_view, escape_view}
use Rattle.vt_parser.specs.Step.{mode_after, pending_after}
use Rattle.xterm_term.specs.Term.{is_ground, is_control, ends_last}
use Rattle.xterm_term.specs.Reading.{Stands, is_ground_state, is_text_state}

-- a control sequence isn't a string
apart : (bytes : List ℕ) → is_control_sequence_begun bytes ≡ true → is_string_begun bytes ≡ false
apart [] is = refl
apart (byte ∷ []) is = refl
apart (byte ∷ next ∷ []) is = grind (arith, nat_tests)
apart (byte ∷ next ∷ third ∷ rest) is = refl

text_of_if : (formed : Bool) (state : ParserState) → is_text_state state ≡ false → is_text_state (if formed then state else CsiIgnored) ≡ false
text_of_if true state is = is
text_of_if false state is = refl

text_of_sequence : (bytes : List ℕ) → is_text_state (control_sequence_view bytes) ≡ false
text_of_sequence [] = refl
text_of_sequence (byte ∷ rest) = text_of_if (is_well_formed (byte ∷ rest)) _ refl

text_of_escape : (bytes : List ℕ) → is_text_state (escape_view bytes) ≡ false
text_of_escape [] = refl
text_of_escape (inter ∷ []) = refl
text_of_escape (inter ∷ next ∷ rest) = refl

ground_of_if : (formed : Bool) (state : ParserState) → is_ground_state state ≡ false → is_ground_state (if formed then state else CsiIgnored) ≡ false
ground_of_if true state is = is
ground_of_if false state is = refl

ground_of_sequence : (bytes : List ℕ) → is_ground_state (control_sequence_view bytes) ≡ false
ground_of_sequence [] = refl
ground_of_sequence (byte ∷ rest) = ground_of_if (is_well_formed (byte ∷ rest)) _ refl

ground_of_escape : (bytes : List ℕ) → is_ground_state (escape_view bytes) ≡ false
ground_of_escape [] = refl
ground_of_escape (inter ∷ []) = refl
ground_of_escape (inter ∷ next ∷ rest) = refl

-- the state that a choice of three gives
chosen : (csi text esc : Bool) (a b c state : ParserState)
    → (if csi then Some a else (if text then Some b else (if esc then Some c else None))) ≡ Some state
    → (csi ≡ true → text ≡ false)
    → is_text_state a ≡ false → is_text_state b ≡ true → is_text_state c ≡ false
    → is_text_state state ≡ text
chosen true true esc a b c state is none isa isb isc = absurd (cc (none refl))
chosen true false esc a b c state is none isa isb isc = let same : a ≡ state = cc in ap is_text_state (sym same) ∙ isa
chosen false true esc a b c state is none isa isb isc = let same : b ≡ state = cc in ap is_text_state (sym same) ∙ isb
chosen false false true a b c state is none isa isb isc = let same : c ≡ state = cc in ap is_text_state (sym same) ∙ isc
chosen false false false a b c state is none isa isb isc = absurd cc

some_same : (a state : ParserState) → Some a ≡ Some state → a ≡ state
some_same a state is = cc

-- the state Text stands for a string, and no other one does
pub text_shown : (bytes : List ℕ) (state : ParserState) → Stands bytes state → is_text_state state ≡ is_string_begun bytes
unfolding parser_view
text_shown [] state is = ap is_text_state (sym (some_same Ground state is))
text_shown (byte ∷ rest) state is =
    chosen (is_control_sequence_begun (byte ∷ rest)) (is_string_begun (byte ∷ rest)) (is_escape_begun (byte ∷ rest)) _ _ _ state is
    (apart (byte ∷ rest)) (text_of_sequence (drop 2 (byte ∷ rest))) refl (text_of_escape (drop 1 (byte ∷ rest)))

chosen_ground : (csi text esc : Bool) (a b c state : ParserState)
    → (if csi then Some a else (if text then Some b else (if esc then Some c else None))) ≡ Some state
    → is_ground_state a ≡ false → is_ground_state b ≡ false → is_ground_state c ≡ false
    → is_ground_state state ≡ false
chosen_ground true text esc a b c state is isa isb isc = let same : a ≡ state = cc in ap is_ground_state (sym same) ∙ isa
chosen_ground false true esc a b c state is isa isb isc = let same : b ≡ state = cc in ap is_ground_state (sym same) ∙ isb
chosen_ground false false true a b c state is isa isb isc = let same : c ≡ state = cc in ap is_ground_state (sym same) ∙ isc
chosen_ground false false false a b c state is isa isb isc = absurd cc

-- the state Ground stands for nothing
pub ground_shown : (bytes : List ℕ) (state : ParserState) → Stands bytes state → is_ground_state state ≡ is_ground bytes
unfolding parser_view
ground_shown [] state is = ap is_ground_state (sym (some_same Ground state is))
ground_shown (byte ∷ rest) state is =
    chosen_ground (is_control_sequence_begun (byte ∷ rest)) (is_string_begun (byte ∷ rest)) (is_escape_begun (byte ∷ rest)) _ _ _ state is
    (ground_of_sequence (drop 2 (byte ∷ rest))) refl (ground_of_escape (drop 1 (byte ∷ rest)))

-- ---- the mode stays

pub either_mode : (b : Bool) → (if b then Ansi else Ansi) ≡ Ansi
either_mode true = refl
either_mode false = refl

-- what is shown after a byte in ANSI mode
pub stands_after : (byte : ℕ) (sequence : List ℕ) (state : ParserState) → parser_view (mode_after Ansi Ansi byte) sequence ≡ Some state → Stands sequence state
stands_after byte sequence state is = ap (λ (m : Mode). parser_view m sequence) (sym (either_mode (byte == escape))) ∙ is

-- whether there is no last character any more, by parts
pub ends_told : (sequence : List ℕ) (byte : ℕ) (acts was_ground ended : Bool) → acts ≡ (is_control byte && not (is_string_begun sequence))
    → was_ground ≡ is_ground sequence → ended ≡ (acts || (not was_ground && is_ground (pending_after Ansi sequence byte)))
    → ended ≡ ends_last sequence byte
ends_told sequence byte acts was_ground ended acts_is ground_is ended_is =
    ended_is ∙ ap₂ (λ (a g : Bool). a || (not g && is_ground (pending_after Ansi sequence byte))) acts_is ground_is
