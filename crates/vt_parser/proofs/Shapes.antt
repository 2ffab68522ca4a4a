-- The forms of pending bytes that a state shows.
use Rattle.std.proofs.Common.{◌≡◌, ℕ, true, List, [], ◌∷◌, Some, refl, subst, inl, inr, arith}
use Rattle.std.specs.List.{list_all}
use Rattle.std.proofs.lemmas.Bool.{cases_Bool}
use Rattle.std.proofs.lemmas.Bool.Decides.{nat_tests}
use Rattle.vt_parser.specs.declared.commands.Mode.{Mode}
use Rattle.vt_parser.specs.declared.commands.Mode.TheVariants.{Ansi, Vt52}
use Rattle.vt_parser.specs.declared.states.ParserState.{ParserState}
use Rattle.vt_parser.specs.declared.states.ParserState.TheVariants.{Ground, Escape, Text, Vt52Escape, Vt52Line, Vt52Column}
use Rattle.vt_parser.specs.Syntax.{escape, is_graphic}
use Rattle.vt_parser.specs.Forms.{is_intermediate, is_control_sequence_text, begins_string, is_control_sequence_begun, is_string_begun}
use Rattle.vt_parser.specs.View.{escape_view, control_sequence_view, ansi_view, vt52_view, parser_view}

pub data Form : Mode → List ℕ → ParserState → Type 0 where
  nothing : (mode : Mode) → Form mode [] Ground
  escaped : (text : List ℕ) → list_all is_intermediate text ≡ true → Form Ansi (escape ∷ text) (escape_view text)
  controlled : (text : List ℕ) → list_all is_control_sequence_text text ≡ true → Form Ansi (escape ∷ 91 ∷ text) (control_sequence_view text)
  stringed : (opening : ℕ) → begins_string opening ≡ true → Form Ansi (escape ∷ opening ∷ []) Text
  lone : Form Vt52 (escape ∷ []) Vt52Escape
  addressed : Form Vt52 (escape ∷ 89 ∷ []) Vt52Line
  lined : (line : ℕ) → is_graphic line ≡ true → Form Vt52 (escape ∷ 89 ∷ line ∷ []) (Vt52Column line)

-- nothing pending is Ground
pub shows_none : (mode : Mode) → parser_view mode [] ≡ Some Ground
unfolding parser_view
shows_none Ansi = refl
shows_none Vt52 = refl

-- equal bytes and states have the same form
same_form : (mode : Mode) (p q : List ℕ) (state other : ParserState) → p ≡ q → state ≡ other → Form mode p state → Form mode q other
same_form mode p q state other bytes states has = subst (Form mode q) states (subst (λ (text : List ℕ). Form mode text state) bytes has)

ansi_form : (byte : ℕ) (rest : List ℕ) (state : ParserState) → ansi_view (byte ∷ rest) ≡ Some state → Form Ansi (byte ∷ rest) state
ansi_form byte [] state is =
    same_form Ansi (escape ∷ []) (byte ∷ []) Escape state (grind (arith, nat_tests)) (grind (arith, nat_tests)) (escaped [] refl)
ansi_form byte (next ∷ []) state is =
    elim (cases_Bool (is_control_sequence_begun (byte ∷ next ∷ []))) [
      | inl begun ↦ same_form Ansi (escape ∷ 91 ∷ []) _ _ state (grind (arith, nat_tests)) (grind (arith, nat_tests)) (controlled [] refl)
      | inr other ↦
          elim (cases_Bool (is_string_begun (byte ∷ next ∷ []))) [
            | inl begun ↦ same_form Ansi (escape ∷ next ∷ []) _ _ state (grind (arith, nat_tests))
                (grind (arith, nat_tests)) (stringed next (grind (arith, nat_tests)))
            | inr none ↦ same_form Ansi (escape ∷ next ∷ []) _ _ state (grind (arith, nat_tests))
                (grind (arith, nat_tests)) (escaped (next ∷ []) (grind (arith, nat_tests)))
          ]
    ]
ansi_form byte (next ∷ third ∷ rest) state is =
    elim (cases_Bool (is_control_sequence_begun (byte ∷ next ∷ third ∷ rest))) [
      | inl begun ↦ same_form Ansi (escape ∷ 91 ∷ third ∷ rest) _ _ state (grind (arith, nat_tests))
          (grind (arith, nat_tests)) (controlled (third ∷ rest) (grind (arith, nat_tests)))
      | inr other ↦ same_form Ansi (escape ∷ next ∷ third ∷ rest) _ _ state (grind (arith, nat_tests))
          (grind (arith, nat_tests)) (escaped (next ∷ third ∷ rest) (grind (arith, nat_tests)))
    ]

vt52_form : (byte : ℕ) (rest : List ℕ) (state : ParserState) → vt52_view (byte ∷ rest) ≡ Some state → Form Vt52 (byte ∷ rest) state
vt52_form byte [] state is = same_form Vt52 (escape ∷ []) _ _ state (grind (arith, nat_tests)) (grind (arith, nat_tests)) lone
vt52_form byte (next ∷ []) state is = same_form Vt52 (escape ∷ 89 ∷ []) _ _ state (grind (arith, nat_tests)) (grind (arith, nat_tests)) addressed
vt52_form byte (next ∷ line ∷ []) state is =
    same_form Vt52 (escape ∷ 89 ∷ line ∷ []) _ _ state (grind (arith, nat_tests)) (grind (arith, nat_tests)) (lined line (grind (arith, nat_tests)))
vt52_form byte (next ∷ line ∷ fourth ∷ rest) state is = absurd cc

pub form : (mode : Mode) (pending : List ℕ) (state : ParserState) → parser_view mode pending ≡ Some state → Form mode pending state
unfolding parser_view
form Ansi [] state is = same_form Ansi [] [] Ground state refl (cc) (nothing Ansi)
form Vt52 [] state is = same_form Vt52 [] [] Ground state refl (cc) (nothing Vt52)
form Ansi (byte ∷ rest) state is = ansi_form byte rest state is
form Vt52 (byte ∷ rest) state is = vt52_form byte rest state is
