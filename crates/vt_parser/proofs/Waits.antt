-- Bytes that come before the end of a sequence.
use Rattle.std.proofs.Common.{◌≡◌, ◌≢◌, ℕ, suc, ◌+◌, ◌<◌, ◌≤◌, Bool, true, false, List, [], ◌∷◌, cond, length, drop, get_or, take, Some, None, refl, sym, ap, ◌∙◌, subst, inl, inr, arith}
use Rattle.std.specs.Prelude.{◌==◌, nat_lt, if◌then◌else◌}
use Rattle.std.specs.List.{list_all, prefix_len}
use Rattle.std.proofs.lemmas.Bool.{and_parts, cases_Bool}
use Rattle.std.proofs.lemmas.Bool.Decides.{nat_tests}
use Rattle.arrayvec.specs.ArrayVec.{ArrayVec}
use Rattle.vt_parser.specs.declared.commands.Mode.{Mode}
use Rattle.vt_parser.specs.declared.commands.Mode.TheVariants.{Ansi}
use Rattle.vt_parser.specs.declared.syntax.Context.TheVariants as context
use Rattle.vt_parser.specs.declared.syntax.Action.TheVariants.{Ignore}
use Rattle.vt_parser.specs.declared.states.ParserState.{ParserState}
use Rattle.vt_parser.specs.declared.states.ParserState.TheVariants.{Ground, Escape, EscapeOne, CsiStart, Csi, CsiIgnored, Text}
use Rattle.vt_parser.specs.Syntax.{escape, action_of}
use Rattle.vt_parser.specs.Fold.{Waits}
use Rattle.vt_parser.specs.Forms.{begins_string, bracket, held, is_control_sequence_final, is_control_sequence_text, is_digit, is_intermediate, is_semicolon, most_params, question_mark}
use Rattle.vt_parser.specs.Machine.{Holds, Transition, context_in, control_sequence_joined, digit_joined, is_skipped, is_text_begun, joined, moves_to, semicolon_joined, stepped}
use Rattle.vt_parser.specs.Step.{mode_after, pending_after}
use Rattle.vt_parser.specs.View.{parser_view}
use Rattle.vt_parser.proofs.Agrees.{same_command, same_view}
use Rattle.vt_parser.proofs.Shapes.{shows_none}
use Rattle.vt_parser.proofs.Whole.{escape_begins, joins}

-- ---- the machine

same_mode : (b : Bool) → (if b then Ansi else Ansi) ≡ Ansi
same_mode true = refl
same_mode false = refl

holds_more : (state after : ParserState) (byte : ℕ) (rest : List ℕ) → stepped state Ansi byte ≡ moves_to after → after ≢ Ground
    → Holds after rest → Holds state (byte ∷ rest)
holds_more state after byte rest moves off holds =
    subst (λ (t : Transition). (t.command ≡ None) × (t.state ≢ Ground) × Holds t.state rest) (sym moves) (refl, off, holds)

-- a step within a control sequence
record Moves (step : Transition) : Type 0 where
  after : ParserState
  moves : step ≡ moves_to after
  begun : is_text_begun after ≡ true

digit_begun : (private : Bool) (params : ArrayVec ℕ) (over : Bool) (digit : ℕ) → is_text_begun (digit_joined private params over digit) ≡ true
digit_begun private params true digit = refl
digit_begun private params false digit = refl

semicolon_begun : (private : Bool) (params : ArrayVec ℕ) (over : Bool) → is_text_begun (semicolon_joined private params over) ≡ true
semicolon_begun private params over = elim (cases_Bool (nat_lt (length params.items) most_params)) [
  | inl t ↦ rw t refl
  | inr f ↦ rw f refl
]

csi_moves : (private : Bool) (params : ArrayVec ℕ) (over : Bool) (byte : ℕ) → is_control_sequence_text byte ≡ true
    → Moves (control_sequence_joined private params over byte)
csi_moves private params over byte is =
    let final : is_control_sequence_final byte ≡ false = grind (arith, nat_tests) in
    elim (cases_Bool (is_digit byte)) [
      | inl digit ↦ record {
        after = digit_joined private params over byte;
        moves = simp (final, digit);
        begun = digit_begun private params over byte;
      }
      | inr other ↦ elim (cases_Bool (is_semicolon byte)) [
        | inl semicolon ↦ record {
          after = semicolon_joined private params over;
          moves = simp (final, other, semicolon);
          begun = semicolon_begun private params over;
        }
        | inr none ↦ record { after = CsiIgnored; moves = simp (final, other, none); begun = refl }
      ]
    ]

joined_moves : (state : ParserState) (byte : ℕ) → is_text_begun state ≡ true → is_control_sequence_text byte ≡ true → Moves (joined state byte)
unfolding joined
joined_moves CsiStart byte begun is = elim (cases_Bool (byte == question_mark)) [
  | inl marked ↦ record { after = Csi true (held (0 ∷ [])) false; moves = simp marked; begun = refl }
  | inr other ↦ rw other (csi_moves false (held (0 ∷ [])) false byte is)
]
joined_moves (Csi private params over) byte begun is = csi_moves private params over byte is
joined_moves CsiIgnored byte begun is =
    let final : is_control_sequence_final byte ≡ false = grind (arith, nat_tests) in
    record { after = CsiIgnored; moves = simp final; begun = refl }
joined_moves _ byte begun is = absurd cc

within : (state : ParserState) → is_text_begun state ≡ true → context_in state ≡ context.Sequence
within CsiStart begun = refl
within (Csi private params over) begun = refl
within CsiIgnored begun = refl
within _ begun = absurd cc

text_moves : (state : ParserState) (byte : ℕ) → is_text_begun state ≡ true → is_control_sequence_text byte ≡ true → Moves (stepped state Ansi byte)
text_moves state byte begun is =
    subst Moves (sym (joins state Ansi byte (within state begun) (grind (arith, nat_tests)))) (joined_moves state byte begun is)

off_ground : (state : ParserState) → is_text_begun state ≡ true → state ≢ Ground
off_ground state begun same = let at = ap is_text_begun same in cc

text_holds : (bytes : List ℕ) (state : ParserState) → is_text_begun state ≡ true → list_all is_control_sequence_text bytes ≡ true → Holds state bytes
text_holds [] state begun all = tt
text_holds (byte ∷ rest) state begun all =
    let parts = and_parts (is_control_sequence_text byte) (list_all is_control_sequence_text rest) all in
    let here = text_moves state byte begun parts.0 in
    holds_more state here.after byte rest here.moves (off_ground here.after here.begun) (text_holds rest here.after here.begun parts.1)

-- a string
skips : (byte : ℕ) → is_skipped byte ≡ true → stepped Text Ansi byte ≡ moves_to Text
unfolding stepped
skips byte is = let kind : action_of context.Text byte ≡ Ignore = grind (arith, nat_tests) in simp kind

string_holds : (bytes : List ℕ) → list_all is_skipped bytes ≡ true → Holds Text bytes
string_holds [] all = tt
string_holds (byte ∷ rest) all =
    let parts = and_parts (is_skipped byte) (list_all is_skipped rest) all in
    holds_more Text Text byte rest (skips byte parts.0) (λ e. cc) (string_holds rest parts.1)

-- ---- as many of them as are taken

all_taken : (p : ℕ → Bool) (bytes : List ℕ) → list_all p (take (prefix_len p bytes) bytes) ≡ true
all_taken p [] = refl
all_taken p (byte ∷ rest) = elim (cases_Bool (p byte)) [
  | inl t ↦
      let more = all_taken p rest in
      let one : prefix_len p (byte ∷ rest) ≡ suc (prefix_len p rest) = ap (λ b. cond b (1 + prefix_len p rest) 0) t ∙ omega arith in
      subst (λ k. list_all p (take k (byte ∷ rest)) ≡ true) (sym one) (simp (t, more))
  | inr f ↦
      let none : prefix_len p (byte ∷ rest) ≡ 0 = ap (λ b. cond b (1 + prefix_len p rest) 0) f in
      subst (λ k. list_all p (take k (byte ∷ rest)) ≡ true) (sym none) refl
]

pub text_taken : (state : ParserState) (bytes : List ℕ) (n : ℕ) → is_text_begun state ≡ true → n ≡ 0 + prefix_len is_control_sequence_text (drop 0 bytes)
    → Holds state (take n bytes)
text_taken state bytes n begun same =
    let end : n ≡ prefix_len is_control_sequence_text bytes = omega arith in
    subst (λ k. Holds state (take k bytes)) (sym end) (text_holds _ state begun (all_taken is_control_sequence_text bytes))

pub string_taken : (bytes : List ℕ) (n : ℕ) → n ≡ 0 + prefix_len is_skipped (drop 0 bytes) → Holds Text (take n bytes)
string_taken bytes n same =
    let end : n ≡ prefix_len is_skipped bytes = omega arith in
    subst (λ k. Holds Text (take k bytes)) (sym end) (string_holds _ (all_taken is_skipped bytes))

-- ESC, and what it comes to with the next byte
pub escape_alone : (state : ParserState) (bytes : List ℕ) → 0 < length bytes → get_or bytes 0 0 ≡ escape → Holds state (take 1 bytes)
escape_alone state [] some first = absurd (omega arith)
escape_alone state (byte ∷ rest) some first =
    subst (λ b. Holds state (b ∷ [])) (sym first) (holds_more state Escape escape [] (escape_begins state Ansi) (λ e. cc) tt)

escape_next : (state after : ParserState) (byte : ℕ) (rest : List ℕ) → stepped Escape Ansi byte ≡ moves_to after → after ≢ Ground → Holds after rest
    → Holds state (escape ∷ byte ∷ rest)
escape_next state after byte rest moves off holds =
    holds_more state Escape escape (byte ∷ rest) (escape_begins state Ansi) (λ e. cc) (holds_more Escape after byte rest moves off holds)

pub escape_text : (state : ParserState) (bytes : List ℕ) (n : ℕ) → 2 ≤ length bytes → get_or bytes 0 0 ≡ escape → get_or bytes 1 0 ≡ bracket
    → n ≡ 2 + prefix_len is_control_sequence_text (drop 2 bytes) → Holds state (take n bytes)
unfolding joined
escape_text state [] n long first second same = absurd (omega arith)
escape_text state (byte ∷ []) n long first second same = absurd (omega arith)
escape_text state (byte ∷ next ∷ rest) n long first second same =
    let end : n ≡ suc (suc (prefix_len is_control_sequence_text rest)) = omega arith in
    let taken = take (prefix_len is_control_sequence_text rest) rest in
    subst (λ k. Holds state (take k (byte ∷ next ∷ rest))) (sym end)
    (subst (λ a. Holds state (a ∷ next ∷ taken)) (sym first)
    (subst (λ b. Holds state (escape ∷ b ∷ taken)) (sym second)
    (escape_next state CsiStart bracket taken (joins Escape Ansi bracket refl refl) (λ e. cc)
    (text_holds taken CsiStart refl (all_taken is_control_sequence_text rest)))))

pub escape_string : (state : ParserState) (bytes : List ℕ) (n : ℕ) → 2 ≤ length bytes → get_or bytes 0 0 ≡ escape → begins_string (get_or bytes 1 0) ≡ true
    → n ≡ 2 + prefix_len is_skipped (drop 2 bytes) → Holds state (take n bytes)
unfolding joined
escape_string state [] n long first opens same = absurd (omega arith)
escape_string state (byte ∷ []) n long first opens same = absurd (omega arith)
escape_string state (byte ∷ next ∷ rest) n long first opens same =
    let end : n ≡ suc (suc (prefix_len is_skipped rest)) = omega arith in
    let taken = take (prefix_len is_skipped rest) rest in
    let moves : stepped Escape Ansi next ≡ moves_to Text = joins Escape Ansi next refl (grind (arith, nat_tests)) ∙ grind (arith, nat_tests) in
    subst (λ k. Holds state (take k (byte ∷ next ∷ rest))) (sym end)
    (subst (λ a. Holds state (a ∷ next ∷ taken)) (sym first)
    (escape_next state Text next taken moves (λ e. cc) (string_holds taken (all_taken is_skipped rest))))

pub escape_intermediate : (state : ParserState) (bytes : List ℕ) → 2 ≤ length bytes → get_or bytes 0 0 ≡ escape → is_intermediate (get_or bytes 1 0) ≡ true
    → Holds state (take 2 bytes)
unfolding joined
escape_intermediate state [] long first is = absurd (omega arith)
escape_intermediate state (byte ∷ []) long first is = absurd (omega arith)
escape_intermediate state (byte ∷ next ∷ rest) long first is =
    subst (λ a. Holds state (a ∷ next ∷ [])) (sym first)
    (escape_next state (EscapeOne next) next [] (joins Escape Ansi next refl (grind (arith, nat_tests)) ∙ simp is) (λ e. cc) tt)

-- ---- the raw bytes

pub waits_by : (bytes : List ℕ) (state : ParserState) (pending : List ℕ) → parser_view Ansi pending ≡ Some state → Holds state bytes → Waits pending bytes
waits_by [] state pending view holds = tt
waits_by (byte ∷ rest) state pending view holds =
    let after = stepped state Ansi byte in
    let mode : mode_after Ansi Ansi byte ≡ Ansi = same_mode (byte == escape) in
    let next : parser_view Ansi (pending_after Ansi pending byte) ≡ Some after.state =
    ap (λ (m : Mode). parser_view m (pending_after Ansi pending byte)) (sym mode) ∙ same_view Ansi Ansi pending byte state view in (
      same_command Ansi Ansi pending byte state view ∙ holds.0,
      λ none. holds.1 (let ground = ap (parser_view Ansi) none in let is = shows_none Ansi in cc),
      waits_by rest after.state (pending_after Ansi pending byte) next holds.2,
    )
