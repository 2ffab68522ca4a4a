-- Whole sequences, fed byte by byte where nothing is pending.
use Rattle.std.proofs.Common.{◌≡◌, ℕ, true, false, List, [], ◌∷◌, ◌++◌, Option, Some, None, refl, sym, ap, ◌∙◌, subst, arith}
use Rattle.std.specs.List.{list_all}
use Rattle.std.proofs.lemmas.Bool.{and_parts}
use Rattle.std.proofs.lemmas.Bool.Decides.{nat_tests}
use Rattle.std.proofs.lemmas.List.{append-nil, append_assoc}
use Rattle.vt_parser.specs.declared.commands.Mode.{Mode}
use Rattle.vt_parser.specs.declared.commands.Mode.TheVariants.{Ansi}
use Rattle.vt_parser.specs.declared.commands.Command.{Command}
use Rattle.vt_parser.specs.declared.commands.Command.TheVariants.{Esc}
use Rattle.vt_parser.specs.declared.syntax.Context.TheVariants as context
use Rattle.vt_parser.specs.declared.states.ParserState.{ParserState}
use Rattle.vt_parser.specs.declared.states.ParserState.TheVariants.{Ground, Escape, EscapeOne, CsiStart, Text}
use Rattle.vt_parser.specs.Syntax.{escape, is_graphic}
use Rattle.vt_parser.specs.Forms.{is_intermediate, is_escape_final, begins_control_sequence, begins_string, bracket, is_control_sequence_text, is_control_sequence_final, control_sequence_meaning}
use Rattle.vt_parser.specs.View.{control_sequence_view}
use Rattle.vt_parser.specs.Fold.{Finishes}
use Rattle.vt_parser.specs.Machine.{context_in, moves_to, gives, joined, begun, stepped, Runs}
use Rattle.vt_parser.proofs.Agrees.{ground_is_empty}
use Rattle.vt_parser.proofs.Growing.{control_sequence_joins}
use Rattle.vt_parser.proofs.ManyBytes.{runs_more, runs_agree}
use Rattle.vt_parser.proofs.Shapes.{shows_none}
use Rattle.vt_parser.proofs.Table.{graphic_in_sequence, graphic_in_string}

-- ---- steps of the machine

pub joins : (state : ParserState) (mode : Mode) (byte : ℕ) → context_in state ≡ context.Sequence
    → is_graphic byte ≡ true → stepped state mode byte ≡ joined state byte
unfolding stepped
joins state mode byte inside graphic = let kind = graphic_in_sequence byte graphic in simp (inside, kind)

-- a graphic character where it isn't shown; in a string it is skipped
pub joins_off : (state : ParserState) (mode : Mode) (byte : ℕ) → (state ≡ Ground → ⊥) → is_graphic byte ≡ true
    → stepped state mode byte ≡ joined state byte
unfolding stepped joined
joins_off Ground mode byte off graphic = absurd (off refl)
joins_off Text mode byte off graphic = let kind = graphic_in_string byte graphic in simp kind
joins_off state mode byte off graphic = joins state mode byte refl graphic

-- ESC begins a sequence wherever it comes
pub escape_begins : (state : ParserState) (mode : Mode) → stepped state mode escape ≡ moves_to (begun mode)
unfolding stepped
escape_begins Ground mode = refl
escape_begins _ mode = refl

-- ---- the sequences of ANSI mode

-- what follows an ESC on ground
finishes : (bytes : List ℕ) (command : Option Command) → Runs Escape Ansi bytes (gives command) → Finishes Ansi (escape ∷ bytes) command
finishes bytes command runs = λ mode.
    let agree = runs_agree Ansi mode [] Ground (escape ∷ bytes) (gives command) (shows_none mode)
    (runs_more Ground Escape Ansi escape bytes (gives command) (escape_begins Ground Ansi) runs) in
    (agree.0, ground_is_empty.1 _ _ agree.1)

-- a byte that ends an escape sequence
last_joins : (state : ParserState) (last : ℕ) (command : Command) → context_in state ≡ context.Sequence → is_escape_final last ≡ true
    → joined state last ≡ gives (Some command) → stepped state Ansi last ≡ gives (Some command)
last_joins state last command inside is ends = joins state Ansi last inside (grind (arith, nat_tests)) ∙ ends

-- ESC and a final byte that opens nothing longer
pub escape_finishes : (last : ℕ) → is_escape_final last ≡ true → begins_control_sequence last ≡ false → begins_string last ≡ false
    → Finishes Ansi (escape ∷ last ∷ []) (Some (Esc None last))
unfolding joined
escape_finishes last is no_control no_string =
    finishes (last ∷ []) (Some (Esc None last)) (last_joins Escape last (Esc None last) refl is (grind (arith, nat_tests)))

-- ESC, an intermediate and a final byte
pub designation_finishes : (inter last : ℕ) → is_intermediate inter ≡ true → is_escape_final last ≡ true
    → Finishes Ansi (escape ∷ inter ∷ last ∷ []) (Some (Esc (Some inter) last))
unfolding joined
designation_finishes inter last first is =
    finishes (inter ∷ last ∷ []) (Some (Esc (Some inter) last))
    (runs_more Escape (EscapeOne inter) Ansi inter (last ∷ []) _ (joins Escape Ansi inter refl (grind (arith, nat_tests)) ∙ simp first)
    (last_joins (EscapeOne inter) last (Esc (Some inter) last) refl is (grind (arith, nat_tests))))

text_inside : (text : List ℕ) → context_in (control_sequence_view text) ≡ context.Sequence
text_inside [] = refl
text_inside (first ∷ rest) = grind (arith, nat_tests)

-- a byte of a text that is begun
pub text_grows : (done : List ℕ) (byte : ℕ) → is_control_sequence_text byte ≡ true
    → stepped (control_sequence_view done) Ansi byte ≡ moves_to (control_sequence_view (done ++ byte ∷ []))
text_grows done byte first =
    let more : joined (control_sequence_view done) byte ≡ moves_to (control_sequence_view (done ++ byte ∷ [])) =
    grind (arith, nat_tests, control_sequence_joins done byte) in
    joins (control_sequence_view done) Ansi byte (text_inside done) (grind (arith, nat_tests)) ∙ more

runs_text : (done text : List ℕ) (last : ℕ) → list_all is_control_sequence_text text ≡ true → is_control_sequence_final last ≡ true
    → Runs (control_sequence_view done) Ansi (text ++ last ∷ []) (gives (control_sequence_meaning (done ++ text) last))
runs_text done [] last all is =
    let ends : joined (control_sequence_view done) last ≡ gives (control_sequence_meaning done last) =
    grind (arith, nat_tests, control_sequence_joins done last) in
    joins (control_sequence_view done) Ansi last (text_inside done) (grind (arith, nat_tests)) ∙ ends
    ∙ ap (λ (text : List ℕ). gives (control_sequence_meaning text last)) (sym (append-nil done))
runs_text done (byte ∷ text) last all is =
    let parts = and_parts (is_control_sequence_text byte) (list_all is_control_sequence_text text) all in
    runs_more (control_sequence_view done) (control_sequence_view (done ++ byte ∷ [])) Ansi byte (text ++ last ∷ []) _
    (text_grows done byte parts.0)
    (subst (λ (whole : List ℕ). Runs (control_sequence_view (done ++ byte ∷ [])) Ansi (text ++ last ∷ [])
    (gives (control_sequence_meaning whole last)))
    (append_assoc done (byte ∷ []) text) (runs_text (done ++ byte ∷ []) text last parts.1 is))

-- ESC [, a text and a final byte
pub control_sequence_finishes : (text : List ℕ) (last : ℕ) → list_all is_control_sequence_text text ≡ true
    → is_control_sequence_final last ≡ true
    → Finishes Ansi (escape ∷ bracket ∷ (text ++ last ∷ [])) (control_sequence_meaning text last)
unfolding joined
control_sequence_finishes text last all is =
    finishes (91 ∷ (text ++ last ∷ [])) (control_sequence_meaning text last)
    (runs_more Escape CsiStart Ansi 91 (text ++ last ∷ []) _ (joins Escape Ansi 91 refl refl) (runs_text [] text last all is))
