-- Bytes to which nothing is replied.
use Rattle.std.proofs.Common.{◌≡◌, ℕ, Bool, true, false, List, [], ◌∷◌, ◌++◌, drop, refl, ap, sym, subst, ◌∙◌, ◌==◌, inl, inr, if◌then◌else◌, Option, Some, None, IfSome, option_map}
use Rattle.std.specs.List.{AllByRecursion}
use Rattle.std.proofs.lemmas.Bool.{cases_Bool, eqb-true}
use Rattle.vt_parser.specs.declared.commands.Mode.{Mode}
use Rattle.vt_parser.specs.declared.commands.Mode.TheVariants.{Ansi, Vt52 as Vt52Mode}
use Rattle.vt_parser.specs.declared.commands.Command.{Command}
use Rattle.vt_parser.specs.declared.commands.Command.TheVariants.{Esc, Csi, Vt52}
use Rattle.vt_parser.specs.declared.syntax.Action.{Action}
use Rattle.vt_parser.specs.declared.syntax.Action.TheVariants.{Execute, Join}
use Rattle.vt_parser.specs.Syntax.{action_of, is_within}
use Rattle.vt_parser.specs.Forms.{control_sequence_meaning, escape_meaning, final, front, is_control_sequence_begun, is_line_begun, is_well_formed, is_whole, meaning}
use Rattle.vt_parser.specs.Step.{command_by, command_of, context_of}
use Rattle.vt_term.specs.declared.sets.CharacterSet.{CharacterSet}
use Rattle.vt_term.specs.declared.sets.Slot.{Slot}
use Rattle.vt_term.specs.declared.sets.Slot.TheVariants.{G0, G1}
use Rattle.vt_term.specs.Rows.{named}
use Rattle.vt_term.specs.Console.{Console}
use Rattle.vt_term.specs.Escapes.{Escape, Scs, character_sets, designation_named, escape_named, line_escapes, plain_escapes}
use Rattle.vt_term.specs.Sequences.{Sequence, param_or, sequences}
use Rattle.vt_term.specs.Vt52.{Vt52Sequence, vt52_sequences}
use Rattle.vt_term.specs.Replies.{escape_reply, reply_of, sequence_reply, vt52_reply}
use Rattle.vt_term.specs.Effect.{control_sequence_reply, reply}
use Rattle.vt_term.specs.Term.{Term, mode_of, sent, step}
use Rattle.screen_print.specs.Skim.{is_asking}
use Rattle.screen_print.proofs.SkimRows.{pick}

-- ---- tables

-- what a number names, by the number too
named_at : {Name : Type 0} (Q : ℕ → Name → Type 0) (rows : List (ℕ × Name)) (number : ℕ) → AllByRecursion (λ (row : ℕ × Name). Q row.0 row.1) rows → IfSome (named rows number) (Q number)
named_at Q [] number h = tt
named_at Q (row ∷ rest) number h = elim (cases_Bool (number == row.0)) [
  | inl t ↦ rw t (subst (λ n. Q n row.1) (sym (eqb-true number row.0 t)) h.0)
  | inr f ↦ rw f (named_at Q rest number h.1)
]

-- a name whose final byte asks for nothing has no reply
abbrev pub Silent : ℕ → Escape → Type 0
Silent last e = is_asking last ≡ false → (s : Console) → escape_reply e s ≡ []

abbrev pub SilentSequence : ℕ → Sequence → Type 0
SilentSequence last row = is_asking last ≡ false → (param : ℕ) (s : Console) → sequence_reply row param s ≡ []

abbrev pub SilentVt52 : ℕ → Vt52Sequence → Type 0
SilentVt52 last row = is_asking last ≡ false → (s : Console) → vt52_reply row s ≡ []

silent_designation : (last : ℕ) (slot : Slot) (set : Option CharacterSet) → IfSome (option_map (Scs slot) set) (Silent last)
silent_designation last slot None = tt
silent_designation last slot (Some set) = λ m s. refl

silent_escape : (inter : Option ℕ) (last : ℕ) → IfSome (escape_named inter last) (Silent last)
silent_escape None last =
    named_at Silent plain_escapes last
    ((λ m s. refl), ((λ m s. refl), ((λ m s. refl), ((λ m s. refl), ((λ m s. cc), ((λ m s. refl), ((λ m s. refl), ((λ m s. refl), ((λ m s. refl), ((λ m s. refl), tt))))))))))
silent_escape (Some inter) last =
    pick (λ found. IfSome found (Silent last)) (inter == 35) (named line_escapes last)
    (if inter == 40 then designation_named G0 last else (if inter == 41 then designation_named G1 last else None))
    (named_at Silent line_escapes last ((λ m s. refl), ((λ m s. refl), ((λ m s. refl), ((λ m s. refl), ((λ m s. refl), tt))))))
    (pick (λ found. IfSome found (Silent last)) (inter == 40) (designation_named G0 last) (if inter == 41 then designation_named G1 last else None)
    (silent_designation last G0 (named character_sets last))
    (pick (λ found. IfSome found (Silent last)) (inter == 41) (designation_named G1 last) None (silent_designation last G1 (named character_sets last)) tt))

silent_sequence : (last : ℕ) → IfSome (named sequences last) (SilentSequence last)
silent_sequence last =
    named_at SilentSequence sequences last
    ((λ m p s. refl), ((λ m p s. refl), ((λ m p s. refl), ((λ m p s. refl), ((λ m p s. refl), ((λ m p s. refl), ((λ m p s. refl), ((λ m p s. refl), ((λ m p s. refl), ((λ m p s. refl), ((λ m p s. refl), ((λ m p s. refl), ((λ m p s. refl), ((λ m p s. refl), ((λ m p s. refl), ((λ m p s. refl), ((λ m p s. refl), ((λ m p s. cc), ((λ m p s. cc), ((λ m p s. cc), tt))))))))))))))))))))

silent_vt52 : (last : ℕ) → IfSome (named vt52_sequences last) (SilentVt52 last)
silent_vt52 last =
    named_at SilentVt52 vt52_sequences last
    ((λ m s. refl), ((λ m s. refl), ((λ m s. refl), ((λ m s. refl), ((λ m s. refl), ((λ m s. refl), ((λ m s. refl), ((λ m s. refl), ((λ m s. refl), ((λ m s. refl), ((λ m s. cc), ((λ m s. refl), ((λ m s. refl), ((λ m s. refl), tt))))))))))))))

-- ---- commands

-- a sequence ends in this byte
abbrev pub EndsIn : ℕ → Command → Type 0
EndsIn byte (Esc inter last) = last ≡ byte
EndsIn byte (Csi private params last) = last ≡ byte
EndsIn byte (Vt52 last) = last ≡ byte
EndsIn byte _ = Unit {0}

last_byte : (bytes : List ℕ) (byte : ℕ) → final (bytes ++ byte ∷ []) ≡ byte
last_byte [] byte = refl
last_byte (a ∷ []) byte = refl
last_byte (a ∷ b ∷ rest) byte = last_byte (b ∷ rest) byte

ends_escape : (inters : List ℕ) (last byte : ℕ) → last ≡ byte → IfSome (escape_meaning inters last) (EndsIn byte)
ends_escape [] last byte is = is
ends_escape (inter ∷ []) last byte is = is
ends_escape (inter ∷ next ∷ rest) last byte is = tt

ends_sequence : (text : List ℕ) (last byte : ℕ) → last ≡ byte → IfSome (control_sequence_meaning text last) (EndsIn byte)
ends_sequence text last byte is = elim (cases_Bool (is_well_formed text)) [
  | inl t ↦ rw t is
  | inr f ↦ rw f tt
]

ends_meaning : (mode : Mode) (pending : List ℕ) (byte : ℕ) → IfSome (meaning mode (pending ++ byte ∷ [])) (EndsIn byte)
unfolding meaning
ends_meaning Ansi pending byte =
    let all = pending ++ byte ∷ [] in
    elim (cases_Bool (is_control_sequence_begun (front all))) [
      | inl t ↦ rw t (ends_sequence (drop 2 (front all)) (final all) byte (last_byte pending byte))
      | inr f ↦ rw f (ends_escape (drop 1 (front all)) (final all) byte (last_byte pending byte))
    ]
ends_meaning Vt52Mode pending byte =
    let all = pending ++ byte ∷ [] in
    elim (cases_Bool (is_line_begun (front all))) [
      | inl t ↦ rw t tt
      | inr f ↦ rw f (last_byte pending byte)
    ]

ends_action : (action : Action) (mode : Mode) (pending : List ℕ) (byte : ℕ) → IfSome (command_by action mode pending byte) (EndsIn byte)
ends_action Execute mode pending byte = elim (cases_Bool (is_within 8 15 byte)) [
  | inl t ↦ rw t tt
  | inr f ↦ rw f tt
]
ends_action Join mode pending byte = elim (cases_Bool (is_whole mode (pending ++ byte ∷ []))) [
  | inl t ↦ rw t (ends_meaning mode pending byte)
  | inr f ↦ rw f tt
]
ends_action _ mode pending byte = tt

ends_byte : (mode : Mode) (pending : List ℕ) (byte : ℕ) → IfSome (command_of mode pending byte) (EndsIn byte)
unfolding command_of
ends_byte mode pending byte = ends_action (action_of (context_of mode pending) byte) mode pending byte

-- ---- replies

escape_none : (row : Option Escape) (last : ℕ) (s : Console) → IfSome row (Silent last) → is_asking last ≡ false → reply_of escape_reply row s ≡ []
escape_none None last s h m = refl
escape_none (Some row) last s h m = h m s

sequence_none : (row : Option Sequence) (last param : ℕ) (s : Console) → IfSome row (SilentSequence last) → is_asking last ≡ false → reply_of (λ row. sequence_reply row param) row s ≡ []
sequence_none None last param s h m = refl
sequence_none (Some row) last param s h m = h m param s

vt52_none : (row : Option Vt52Sequence) (last : ℕ) (s : Console) → IfSome row (SilentVt52 last) → is_asking last ≡ false → reply_of vt52_reply row s ≡ []
vt52_none None last s h m = refl
vt52_none (Some row) last s h m = h m s

control_none : (private : Bool) (last : ℕ) (params : List ℕ) (s : Console) → is_asking last ≡ false → control_sequence_reply private last params s ≡ []
control_none true last params s m = refl
control_none false last params s m = sequence_none (named sequences last) last (param_or params 0 0) s (silent_sequence last) m

command_none : (command : Command) (byte : ℕ) (s : Console) → EndsIn byte command → is_asking byte ≡ false → reply command s ≡ []
unfolding reply
command_none (Esc inter last) byte s ends m = escape_none (escape_named inter last) last s (silent_escape inter last) (ap is_asking ends ∙ m)
command_none (Csi private params last) byte s ends m = control_none private last params.items s (ap is_asking ends ∙ m)
command_none (Vt52 last) byte s ends m = vt52_none (named vt52_sequences last) last s (silent_vt52 last) (ap is_asking ends ∙ m)
command_none _ byte s ends m = refl

some_none : (command : Option Command) (byte : ℕ) (s : Console) → IfSome command (EndsIn byte) → is_asking byte ≡ false → reply_of reply command s ≡ []
some_none None byte s ends m = refl
some_none (Some command) byte s ends m = command_none command byte s ends m

pub mute_sends : (x : Term) (bytes : List ℕ) → AllByRecursion (λ byte. is_asking byte ≡ false) bytes → sent x bytes ≡ []
unfolding sent
mute_sends x [] all = refl
mute_sends x (byte ∷ bytes) all =
    ap (λ l. l ++ sent (step x byte) bytes) (some_none (command_of (mode_of x) x.pending byte) byte x.console (ends_byte (mode_of x) x.pending byte) all.0)
    ∙ mute_sends (step x byte) bytes all.1
