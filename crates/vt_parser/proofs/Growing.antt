-- The view of a control sequence's text that grows by one byte.
use Rattle.std.proofs.Common.{◌≡◌, ℕ, ◌<◌, Bool, true, false, ◌==◌, cond, ltb, List, [], ◌∷◌, ◌++◌, take, length, refl, ap, inl, inr, Option, Some, None, arith, take_all}
use Rattle.std.specs.List.{list_all}
use Rattle.std.proofs.lemmas.Bool.{cases_Bool}
use Rattle.std.proofs.lemmas.Bool.Decides.{nat_tests}
use Rattle.std.proofs.lemmas.List.{length-append, length-take, take-append-le}
use Rattle.std.proofs.lemmas.List.Folds.{list_all-append}
use Rattle.vt_parser.specs.declared.commands.Command.{Command}
use Rattle.vt_parser.specs.declared.commands.Command.TheVariants as command
use Rattle.vt_parser.specs.declared.states.ParserState.{ParserState}
use Rattle.vt_parser.specs.declared.states.ParserState.TheVariants.{Csi, CsiIgnored}
use Rattle.vt_parser.specs.Forms.{is_control_sequence_final, is_digit, is_semicolon, is_plain, after_mark, numbers, params, has_more, held, control_sequence_meaning, front, final}
use Rattle.vt_parser.specs.View.{control_sequence_view}
use Rattle.vt_parser.specs.Machine.{joined, digit_joined, semicolon_joined, with_last_digit, gives, moves_to}
use Rattle.vt_parser.proofs.Numbers.{numbers_push, numbers_some}

-- ---- the sixteen that count

front_final : (list : List ℕ) → 0 < length list → list ≡ front list ++ final list ∷ []
front_final [] some = absurd (omega arith)
front_final (number ∷ []) some = refl
front_final (number ∷ second ∷ rest) some = ap (λ tail. number ∷ tail) (front_final (second ∷ rest) (omega arith))

digit_added : (private : Bool) (list : List ℕ) (digit : ℕ) → 0 < length list
    → Csi private (held (take 16 (with_last_digit list digit))) (ltb 16 (length (with_last_digit list digit)))
    ≡ digit_joined private (held (take 16 list)) (ltb 16 (length list)) digit
digit_added private list digit some =
    grind (arith, nat_tests, front_final list some, length-append {A = ℕ}, length-take {A = ℕ}, take_all {A = ℕ}, take-append-le {A = ℕ})

number_added : (private : Bool) (list : List ℕ)
    → Csi private (held (take 16 (list ++ 0 ∷ []))) (ltb 16 (length (list ++ 0 ∷ [])))
    ≡ semicolon_joined private (held (take 16 list)) (ltb 16 (length list))
number_added private list = grind (arith, nat_tests, length-append {A = ℕ}, length-take {A = ℕ}, take_all {A = ℕ}, take-append-le {A = ℕ})

-- ---- a further byte

-- the state of a text without its mark, and what it means
abbrev view_by : Bool → List ℕ → ParserState
view_by private text = cond (list_all is_plain text) (Csi private (held (params text)) (has_more text)) CsiIgnored

abbrev meaning_by : Bool → List ℕ → ℕ → Option Command
meaning_by private text last = cond (list_all is_plain text) (Some (command.Csi private (held (params text)) last)) None

digit_view : (private : Bool) (text : List ℕ) (byte : ℕ) → is_digit byte ≡ true
    → Csi private (held (params (text ++ byte ∷ []))) (has_more (text ++ byte ∷ [])) ≡ digit_joined private (held (params text)) (has_more text) byte
digit_view private text byte is = grind (arith, nat_tests, numbers_push text byte, digit_added private (numbers text) byte (numbers_some text))

semicolon_view : (private : Bool) (text : List ℕ) (byte : ℕ) → is_semicolon byte ≡ true
    → Csi private (held (params (text ++ byte ∷ []))) (has_more (text ++ byte ∷ [])) ≡ semicolon_joined private (held (params text)) (has_more text)
semicolon_view private text byte is = grind (arith, numbers_push text byte, number_added private (numbers text))

text_joins : (private : Bool) (text : List ℕ) (byte : ℕ)
    → joined (view_by private text) byte
    ≡ cond (is_control_sequence_final byte) (gives (meaning_by private text byte)) (moves_to (view_by private (text ++ byte ∷ [])))
unfolding joined
text_joins private text byte =
    let pushed = list_all-append is_plain text (byte ∷ []) in
    elim (cases_Bool (is_digit byte)) [
      | inl digit ↦ grind (arith, nat_tests, pushed, digit_view private text byte digit)
      | inr other ↦ grind (arith, nat_tests, pushed, other, semicolon_view private text byte)
    ]

-- a byte that joins a text ends it, or the state is that of the text with that byte
pub control_sequence_joins : (text : List ℕ) (byte : ℕ)
    → joined (control_sequence_view text) byte
    ≡ cond (is_control_sequence_final byte) (gives (control_sequence_meaning text byte)) (moves_to (control_sequence_view (text ++ byte ∷ [])))
unfolding joined numbers
control_sequence_joins [] byte = grind (arith, nat_tests, text_joins false [] byte)
control_sequence_joins (first ∷ rest) byte = grind (arith, nat_tests, text_joins (first == 63) (after_mark (first ∷ rest)) byte)
