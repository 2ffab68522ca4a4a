-- A byte that joins a pending sequence: the machine against the raw bytes, form by form.
use Rattle.std.proofs.Common.{◌≡◌, ℕ, Bool, true, ◌||◌, cond, List, [], ◌∷◌, ◌++◌, drop, get_or, Option, Some, None, refl, ap, arith}
use Rattle.std.specs.List.{list_all}
use Rattle.std.proofs.lemmas.Bool.{false≢true}
use Rattle.std.proofs.lemmas.Bool.Decides.{nat_tests}
use Rattle.std.proofs.lemmas.List.Folds.{list_all-append}
use Rattle.vt_parser.specs.declared.commands.Mode.{Mode}
use Rattle.vt_parser.specs.declared.commands.Mode.TheVariants.{Ansi, Vt52 as Vt52Mode}
use Rattle.vt_parser.specs.declared.commands.Command.{Command}
use Rattle.vt_parser.specs.declared.commands.Command.TheVariants.{Vt52}
use Rattle.vt_parser.specs.declared.states.ParserState.{ParserState}
use Rattle.vt_parser.specs.declared.states.ParserState.TheVariants.{Ground}
use Rattle.vt_parser.specs.Syntax.{escape, is_graphic}
use Rattle.vt_parser.specs.Forms.{front, final, is_intermediate, is_control_sequence_text, is_control_sequence_begun, is_line_begun, ends_escape, ends_control_sequence, ends_vt52, ends_address, is_whole, escape_meaning, control_sequence_meaning, address_meaning, meaning}
use Rattle.vt_parser.specs.View.{control_sequence_view, parser_view}
use Rattle.vt_parser.specs.Machine.{context_in, joined}
use Rattle.vt_parser.proofs.Growing.{control_sequence_joins}
use Rattle.vt_parser.proofs.Shapes.{Form, nothing, escaped, controlled, stringed, lined}
use Rattle.vt_parser.proofs.Table.{is_sequence}

-- ---- the last byte apart

pub front_push : (bytes : List ℕ) (byte : ℕ) → front (bytes ++ byte ∷ []) ≡ bytes
front_push [] byte = refl
front_push (first ∷ []) byte = refl
front_push (first ∷ second ∷ rest) byte = ap (λ tail. first ∷ tail) (front_push (second ∷ rest) byte)

pub final_push : (bytes : List ℕ) (byte : ℕ) → final (bytes ++ byte ∷ []) ≡ byte
final_push [] byte = refl
final_push (first ∷ []) byte = refl
final_push (first ∷ second ∷ rest) byte = final_push (second ∷ rest) byte

-- whether a byte makes the pending bytes whole, and what they mean then
abbrev pub whole_with : Mode → List ℕ → ℕ → Bool
whole_with Ansi pending byte = ends_control_sequence pending byte || ends_escape pending byte
whole_with Vt52Mode pending byte = ends_address pending byte || ends_vt52 pending byte

abbrev pub meaning_with : Mode → List ℕ → ℕ → Option Command
meaning_with Ansi pending byte =
    cond (is_control_sequence_begun pending) (control_sequence_meaning (drop 2 pending) byte) (escape_meaning (drop 1 pending) byte)
meaning_with Vt52Mode pending byte = cond (is_line_begun pending) (address_meaning (get_or pending 2 0) byte) (Some (Vt52 byte))

pub is_whole_push : (mode : Mode) (pending : List ℕ) (byte : ℕ) → is_whole mode (pending ++ byte ∷ []) ≡ whole_with mode pending byte
unfolding is_whole
is_whole_push Ansi pending byte = simp (front_push pending byte, final_push pending byte)
is_whole_push Vt52Mode pending byte = simp (front_push pending byte, final_push pending byte)

pub meaning_push : (mode : Mode) (pending : List ℕ) (byte : ℕ) → meaning mode (pending ++ byte ∷ []) ≡ meaning_with mode pending byte
unfolding meaning
meaning_push Ansi pending byte = simp (front_push pending byte, final_push pending byte)
meaning_push Vt52Mode pending byte = simp (front_push pending byte, final_push pending byte)

-- ---- form by form

-- the machine does what the bytes say
pub record JoinAgrees (mode : Mode) (pending : List ℕ) (byte : ℕ) (state : ParserState) : Type 0 where
  pub command : cond (whole_with mode pending byte) (meaning_with mode pending byte) None ≡ (joined state byte).command
  pub view : cond (whole_with mode pending byte) (Some Ground) (parser_view mode (pending ++ byte ∷ [])) ≡ Some (joined state byte).state

join_control_sequence : (text : List ℕ) (byte : ℕ) → list_all is_control_sequence_text text ≡ true
    → is_graphic byte ≡ true → JoinAgrees Ansi (escape ∷ 91 ∷ text) byte (control_sequence_view text)
unfolding parser_view
join_control_sequence text byte all graphic =
    let joins = control_sequence_joins text byte in
    let pushed = list_all-append is_control_sequence_text text (byte ∷ []) in
    record { command = grind (arith, nat_tests, joins); view = grind (arith, nat_tests, joins, pushed) }

pub joins_alike : (mode : Mode) (pending : List ℕ) (state : ParserState) → Form mode pending state → (byte : ℕ)
    → is_graphic byte ≡ true → is_sequence (context_in state) ≡ true → JoinAgrees mode pending byte state
unfolding parser_view joined
joins_alike _ _ _ (nothing mode) byte graphic inside = absurd (false≢true inside)
joins_alike _ _ _ (escaped (inter ∷ []) all) byte graphic inside = record { command = grind (arith, nat_tests); view = grind (arith, nat_tests) }
joins_alike _ _ _ (escaped (inter ∷ third ∷ rest) all) byte graphic inside =
    let pushed = list_all-append is_intermediate rest (byte ∷ []) in
    record { command = grind (arith, nat_tests); view = grind (arith, nat_tests, pushed) }
joins_alike _ _ _ (controlled text all) byte graphic inside = join_control_sequence text byte all graphic
joins_alike _ _ _ (stringed opening is) byte graphic inside = absurd (false≢true inside)
joins_alike _ _ _ (lined line is) byte graphic inside = record { command = grind (arith, nat_tests); view = grind (arith, nat_tests) }
joins_alike _ _ _ _ byte graphic inside = record { command = grind (arith, nat_tests); view = grind (arith, nat_tests) }
