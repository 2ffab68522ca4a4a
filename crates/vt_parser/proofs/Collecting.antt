-- The text of a control sequence, read byte by byte with its last parameter apart.
use Rattle.std.proofs.Common.{◌≡◌, ℕ, zero, suc, ◌+◌, ◌<◌, ◌≤◌, Bool, true, false, ◌==◌, cond, List, [], ◌∷◌, ◌++◌, take, drop, length, get_or, Some, None, refl, sym, ap, ◌∙◌, subst, inl, inr, arith}
use Rattle.std.specs.List.{prefix_len}
use Rattle.std.proofs.lemmas.Bool.{cases_Bool}
use Rattle.std.proofs.lemmas.Bool.Decides.{nat_tests}
use Rattle.std.proofs.lemmas.List.{take_more}
use Rattle.arrayvec.specs.ArrayVec.{ArrayVec}
use Rattle.vt_parser.specs.declared.commands.Mode.{Mode}
use Rattle.vt_parser.specs.declared.commands.Mode.TheVariants.{Ansi}
use Rattle.vt_parser.specs.declared.commands.Command.TheVariants as command
use Rattle.vt_parser.specs.declared.states.ParserState.{ParserState}
use Rattle.vt_parser.specs.declared.states.ParserState.TheVariants.{Ground, Escape, CsiStart, Csi, CsiIgnored}
use Rattle.vt_parser.specs.Syntax.{escape, is_within, is_graphic}
use Rattle.vt_parser.specs.Forms.{is_control_sequence_text, is_control_sequence_final, is_plain, held}
use Rattle.vt_parser.specs.Machine.{Transition, moves_to, gives, digit_joined, semicolon_joined, control_sequence_joined, joined, stepped, formless_at, Runs, Passes, Arrives}
use Rattle.vt_parser.specs.Reading.{GoesOn}
use Rattle.vt_parser.proofs.ManyBytes.{arrives_more, arrives_push, runs_more}
use Rattle.vt_parser.proofs.Table.{control_on_ground}
use Rattle.vt_parser.proofs.Whole.{joins, escape_begins}

-- ---- bytes of a text

-- a byte that joins a text, and the step that it makes
pub record JoinsText (private : Bool) (params : ArrayVec ℕ) (over : Bool) (byte : ℕ) (step : Transition) : Type 0 where
  graphic : is_graphic byte ≡ true
  does : control_sequence_joined private params over byte ≡ step

pub digit_joins : (private : Bool) (params : ArrayVec ℕ) (over : Bool) (byte : ℕ) → 48 ≤ byte → byte ≤ 57
    → JoinsText private params over byte (moves_to (digit_joined private params over byte))
digit_joins private params over byte low high = record { graphic = grind (arith, nat_tests); does = grind (arith, nat_tests) }

pub semicolon_joins : (private : Bool) (params : ArrayVec ℕ) (over : Bool) (byte : ℕ) → byte ≡ 59
    → JoinsText private params over byte (moves_to (semicolon_joined private params over))
semicolon_joins private params over byte is = record { graphic = grind (arith, nat_tests); does = grind (arith, nat_tests) }

pub final_joins : (private : Bool) (params : ArrayVec ℕ) (over : Bool) (byte : ℕ) → is_control_sequence_final byte ≡ true
    → JoinsText private params over byte (gives (Some (command.Csi private params byte)))
final_joins private params over byte is = record { graphic = grind (arith, nat_tests); does = grind (arith, nat_tests) }

pub other_joins : (private : Bool) (params : ArrayVec ℕ) (over : Bool) (byte : ℕ) → is_control_sequence_text byte ≡ true → is_plain byte ≡ false
    → JoinsText private params over byte (moves_to CsiIgnored)
other_joins private params over byte is other = record { graphic = grind (arith, nat_tests); does = grind (arith, nat_tests) }

-- from where it joins to all that was read
pub further : (front : List ℕ) (state : ParserState) (private : Bool) (params : ArrayVec ℕ) (over : Bool)
    (bytes : List ℕ) (at : ℕ) (step other : Transition) → at < length bytes
    → JoinsText private params over (get_or bytes at 0) step → other ≡ step
    → GoesOn front state (take at bytes) (moves_to (Csi private params over)) → GoesOn front state (take (at + 1) bytes) other
unfolding joined
further front state private params over bytes at step other within joined same led = λ start mode arrives.
    let there : ParserState = Csi private params over in
    let byte = get_or bytes at 0 in
    subst (λ (taken : List ℕ). Arrives start mode taken other) (sym (take_more bytes at 0 within))
    (subst (λ (last : Transition). Arrives start mode (take at bytes ++ byte ∷ []) last)
    (joins there mode byte refl joined.graphic ∙ joined.does ∙ sym same)
    (arrives_push start mode (take at bytes) there byte refl (led start mode arrives)))

-- ---- where a text begins

-- two states that take the first byte alike take the bytes alike
same_first : (state other : ParserState) (mode : Mode) (byte : ℕ) (rest : List ℕ) (step : Transition)
    → stepped state mode byte ≡ stepped other mode byte
    → Arrives state mode (byte ∷ rest) step → Arrives other mode (byte ∷ rest) step
same_first state other mode byte [] step same arrives = record { runs = sym same ∙ arrives.runs; passes = tt }
same_first state other mode byte (second ∷ rest) step same arrives = record {
  runs = subst (λ (s : Transition). (s.command ≡ None) × Runs s.state mode (second ∷ rest) step) same arrives.runs;
  passes = subst (λ (s : Transition). (formless_at s.state second ≡ None) × Passes s.state mode (second ∷ rest)) same
      arrives.passes;
}

-- the text after ESC [ is read from its first byte on, or from behind the `?`
pub start_runs : (mode : Mode) (bytes : List ℕ) (n from : ℕ) (step : Transition) → 0 < n → 0 < length bytes → is_graphic (get_or bytes 0 0) ≡ true
    → from ≡ cond (get_or bytes 0 0 == 63) 1 0
    → GoesOn (take from bytes) (Csi (get_or bytes 0 0 == 63) (held (0 ∷ [])) false) (take n bytes) step
    → Arrives CsiStart mode (take n bytes) step
unfolding joined
start_runs mode (byte ∷ rest) (suc n) from step some within graphic begins led =
    let start : ParserState = Csi (byte == 63) (held (0 ∷ [])) false in
    let ends : (state : ParserState) → ℕ → Type 0 = λ state k. Arrives state mode (take k (byte ∷ rest)) (moves_to start) in
    elim (cases_Bool (byte == 63)) [
      | inl marked ↦ led CsiStart mode (subst (ends CsiStart) (let at : 1 ≡ from = grind arith in at)
          (record { runs = joins CsiStart mode byte refl graphic ∙ simp marked; passes = tt }))
      | inr unmarked ↦
          same_first start CsiStart mode byte (take n rest) step
          (joins start mode byte refl graphic ∙ sym (joins CsiStart mode byte refl graphic ∙ simp unmarked))
          (led start mode (subst (ends start) (let at : 0 ≡ from = grind arith in at) (record { runs = refl; passes = tt })))
    ]
start_runs mode _ _ from step some within graphic begins led = absurd (omega arith)

-- ---- other bytes

pub runs_one : (state : ParserState) (mode : Mode) (bytes : List ℕ) (step : Transition) → 0 < length bytes
    → stepped state mode (get_or bytes 0 0) ≡ step → Arrives state mode (take 1 bytes) step
runs_one state mode [] step some is = absurd (omega arith)
runs_one state mode (byte ∷ rest) step some is = record { runs = is; passes = tt }

-- a control character on ground that has an effect
control_steps : (mode : Mode) (byte : ℕ) → is_within 8 15 byte ≡ true
    → stepped Ground mode byte ≡ record { state = Ground; command = Some (command.Control byte) }
unfolding stepped
control_steps mode byte is = let kind = control_on_ground byte is in simp (kind, is)

pub control_runs : (state : ParserState) (mode : Mode) (bytes : List ℕ) → 0 < length bytes → state ≡ Ground
    → is_within 8 15 (get_or bytes 0 0) ≡ true
    → Arrives state mode (take 1 bytes) (record { state = state; command = Some (command.Control (get_or bytes 0 0)) })
control_runs state mode bytes some ground is =
    let byte = get_or bytes 0 0 in
    let steps : ParserState → Type 0 =
    λ state. stepped state mode byte ≡ record { state = state; command = Some (command.Control byte) } in
    runs_one state mode bytes _ some (subst steps (sym ground) (control_steps mode byte is))

-- ESC `[` in ANSI mode, and bytes of the text that it begins
pub opening_runs : (state : ParserState) (bytes : List ℕ) (n : ℕ) (step : Transition) → get_or bytes 0 0 ≡ escape → get_or bytes 1 0 ≡ 91
    → 1 < length bytes → Arrives CsiStart Ansi (take n (drop 2 bytes)) step → Arrives state Ansi (take (n + 2) bytes) step
unfolding joined
opening_runs state (byte ∷ other ∷ rest) n step first second long arrives =
    let begins : stepped state Ansi byte ≡ moves_to Escape = ap (stepped state Ansi) first ∙ escape_begins state Ansi in
    let opens : stepped Escape Ansi other ≡ moves_to CsiStart = ap (stepped Escape Ansi) second ∙ joins Escape Ansi 91 refl refl in
    let size : suc (suc n) ≡ n + 2 = omega arith in
    subst (λ (k : ℕ). Arrives state Ansi (take k (byte ∷ other ∷ rest)) step) size
    (arrives_more state Escape Ansi byte (other ∷ take n rest) step (λ _. refl) begins
    (arrives_more Escape CsiStart Ansi other (take n rest) step (λ _. refl) opens arrives))
opening_runs state _ n step first second long arrives = absurd (omega arith)

-- NUL leaves all as it is
nul_stays : (state : ParserState) (mode : Mode) → stepped state mode 0 ≡ moves_to state
unfolding stepped
nul_stays Ground mode = refl
nul_stays _ mode = refl

nul_ends_none : (state : ParserState) → formless_at state 0 ≡ None
nul_ends_none Ground = refl
nul_ends_none _ = refl

nuls_pass : (state : ParserState) (mode : Mode) (bytes : List ℕ) (n : ℕ)
    → n ≤ prefix_len (λ byte. byte == 0) bytes → Passes state mode (take n bytes)
nuls_pass state mode bytes zero le = tt
nuls_pass state mode [] (suc n) le = tt
nuls_pass state mode (byte ∷ rest) (suc zero) le = tt
nuls_pass state mode (byte ∷ []) (suc (suc n)) le = tt
nuls_pass state mode (byte ∷ next ∷ rest) (suc (suc n)) le =
    let is : byte ≡ 0 = grind (arith, nat_tests) in
    let also : next ≡ 0 = grind (arith, nat_tests) in
    let stays : stepped state mode byte ≡ moves_to state = ap (stepped state mode) is ∙ nul_stays state mode in
    subst (λ (s : Transition). (formless_at s.state next ≡ None) × Passes s.state mode (next ∷ take n rest)) (sym stays)
    (ap (formless_at state) also ∙ nul_ends_none state, nuls_pass state mode (next ∷ rest) (suc n) (grind (arith, nat_tests)))

nuls_move : (state : ParserState) (mode : Mode) (bytes : List ℕ) (n : ℕ)
    → n ≤ prefix_len (λ byte. byte == 0) bytes → Runs state mode (take n bytes) (moves_to state)
nuls_move state mode bytes zero le = refl
nuls_move state mode [] (suc n) le = refl
nuls_move state mode (byte ∷ rest) (suc n) le =
    let is : byte ≡ 0 = grind (arith, nat_tests) in
    runs_more state state mode byte (take n rest) (moves_to state)
    (ap (stepped state mode) is ∙ nul_stays state mode) (nuls_move state mode rest n (grind (arith, nat_tests)))

pub nuls_run : (state : ParserState) (mode : Mode) (bytes : List ℕ) (n : ℕ)
    → n ≤ prefix_len (λ byte. byte == 0) bytes → Arrives state mode (take n bytes) (moves_to state)
nuls_run state mode bytes n le = record { runs = nuls_move state mode bytes n le; passes = nuls_pass state mode bytes n le }
