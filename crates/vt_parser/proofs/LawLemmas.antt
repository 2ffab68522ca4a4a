-- What a byte gives and leaves, whatever is pending: the laws that need no state.
use Rattle.std.proofs.Common.{◌≡◌, ℕ, zero, suc, ◌+◌, ◌≤◌, Bool, true, false, cond, List, [], ◌∷◌, ◌++◌, map, take, length, Option, Some, None, IfSome, refl, sym, ◌∙◌, subst, inl, inr, arith}
use Rattle.std.specs.List.{slice_split, prefix_len, list_all, All, AllByRecursion}
use Rattle.std.proofs.lemmas.Bool.{cases_Bool, false≢true}
use Rattle.std.proofs.lemmas.Bool.Decides.{nat_tests}
use Rattle.std.proofs.lemmas.List.{length_push, length-take, length-map}
use Rattle.std.proofs.lemmas.List.Elements.{All-from_recursion}
use Rattle.std.proofs.lemmas.List.Splits.{length-slice_split}
use Rattle.vt_parser.specs.declared.commands.Mode.{Mode}
use Rattle.vt_parser.specs.declared.commands.Mode.TheVariants.{Ansi, Vt52}
use Rattle.vt_parser.specs.declared.commands.Command.{Command}
use Rattle.vt_parser.specs.declared.syntax.Context.{Context}
use Rattle.vt_parser.specs.declared.syntax.Action.{Action}
use Rattle.vt_parser.specs.declared.syntax.Action.TheVariants.{Execute, Print, Mark, Join, Cancel}
use Rattle.vt_parser.specs.Syntax.{is_within, is_graphic, action_of}
use Rattle.vt_parser.specs.Forms.{is_intermediate, is_escape_final, is_control_sequence_final, is_control_sequence_begun, is_line_begun, is_whole, is_semicolon, after_mark, is_well_formed, parameter, numbers, params, escape_meaning, control_sequence_meaning}
use Rattle.vt_parser.specs.Step.{context_of, command_by, pending_by, command_of, pending_after}
use Rattle.vt_parser.specs.Law.{IsFrom, IsProper, is_sequence, fewest_bytes, fewest_of, CommandsAreProper, FinishedLeavesNothing, PendingPays, GraphicIsShown, ControlIsGiven}
use Rattle.vt_parser.proofs.Joins.{whole_with, meaning_with, is_whole_push, meaning_push}
use Rattle.vt_parser.proofs.Table.{fits, fit, graphic_on_ground, control_on_ground}
use Rattle.vt_parser.proofs.Agrees.{same_context}
use Rattle.vt_parser.proofs.Shapes.{shows_none}

-- ---- parameters

capped_all : (n : ℕ) (pieces : List (List ℕ)) → AllByRecursion (λ param. param ≤ 9999) (take n (map parameter pieces))
capped_all zero pieces = tt
capped_all (suc n) [] = tt
capped_all (suc n) (piece ∷ pieces) = (omega arith, capped_all n pieces)

pub params_proper : (text : List ℕ) → IsFrom 1 16 (length (params text)) × All (λ param. param ≤ 9999) (params text)
unfolding numbers
params_proper text =
    let pieces = slice_split is_semicolon text in
    let some = length-slice_split is_semicolon text in
    let same = length-map pieces parameter in
    let kept = length-take 16 (map parameter pieces) in
    ((omega arith, omega arith), All-from_recursion (λ param. param ≤ 9999) (take 16 (map parameter pieces)) (capped_all 16 pieces))

-- ---- one byte

-- a command whose numbers are in their ranges, that is paid with what is pending then, and leaves nothing where it ends a sequence
record IsDue (bytes : ℕ) (after : List ℕ) (command : Option Command) : Type 0 where
  proper : IfSome command IsProper
  paid : fewest_of command + length after ≤ bytes
  finished : IfSome command (λ it. is_sequence it ≡ true → after ≡ [])

-- a test of a range, as a fact
within : (low high byte : ℕ) → is_within low high byte ≡ true → IsFrom low high byte
within low high byte is = (grind (arith, nat_tests), grind (arith, nat_tests))

due_if : (b : Bool) (bytes : ℕ) (command : Command) → IsProper command → fewest_bytes command ≤ bytes → IsDue bytes [] (cond b (Some command) None)
due_if true bytes command proper paid = record { proper = proper; paid = omega arith; finished = λ _. refl }
due_if false bytes command proper paid = record { proper = tt; paid = omega arith; finished = tt }

control_sequence_due : (text : List ℕ) (last bytes : ℕ) → is_control_sequence_final last ≡ true → 3 ≤ bytes
    → IsDue bytes [] (control_sequence_meaning text last)
control_sequence_due text last bytes is long =
    let proper = params_proper (after_mark text) in
    due_if (is_well_formed text) bytes _ (proper.0, proper.1, within 64 126 last is) long

escape_due : (inter : ℕ) (text : List ℕ) (last bytes : ℕ) → is_intermediate inter ≡ true
    → is_escape_final last ≡ true → 3 ≤ bytes → IsDue bytes [] (escape_meaning (inter ∷ text) last)
escape_due inter [] last bytes first is long =
    record { proper = (within 32 47 inter first, within 48 126 last is); paid = omega arith; finished = λ _. refl }
escape_due inter (second ∷ rest) last bytes first is long = record { proper = tt; paid = omega arith; finished = tt }

whole_due : (mode : Mode) (pending : List ℕ) (byte : ℕ) → whole_with mode pending byte ≡ true
    → IsDue (length pending + 1) [] (meaning_with mode pending byte)
whole_due Ansi [] byte whole = absurd (false≢true whole)
whole_due Ansi (first ∷ []) byte whole =
    record { proper = (tt, within 48 126 byte (grind (arith, nat_tests))); paid = omega arith; finished = λ _. refl }
whole_due Ansi (first ∷ second ∷ text) byte whole =
    elim (cases_Bool (is_control_sequence_begun (first ∷ second ∷ text))) [
      | inl begun ↦ simp begun (control_sequence_due text byte _ (grind (arith, nat_tests)) (omega arith))
      | inr other ↦ simp other (escape_due second text byte _ (grind (arith, nat_tests)) (grind (arith, nat_tests)) (omega arith))
    ]
whole_due Vt52 (first ∷ []) byte whole =
    record { proper = (within 32 126 byte (grind (arith, nat_tests)), λ is. grind (arith, nat_tests)); paid = omega arith; finished = λ _. refl }
whole_due Vt52 (first ∷ second ∷ line ∷ []) byte whole =
    let begun : is_line_begun (first ∷ second ∷ line ∷ []) ≡ true = grind (arith, nat_tests) in
    let shown = within 32 126 line (grind (arith, nat_tests)) in
    let last = within 32 126 byte (grind (arith, nat_tests)) in
    simp begun (record { proper = ((omega arith, omega arith), (omega arith, omega arith)); paid = omega arith; finished = λ _. refl })
whole_due Vt52 _ byte whole = absurd (false≢true whole)

due_by : (mode : Mode) (pending : List ℕ) (byte : ℕ) (at : Context) (action : Action) → fits byte at action ≡ true
    → IsDue (length pending + 1) (pending_by action mode pending byte) (command_by action mode pending byte)
due_by mode pending byte at Execute fits =
    elim (cases_Bool (is_within 8 15 byte)) [
      | inl is ↦ simp is (record { proper = within 8 15 byte is; paid = omega arith; finished = λ no. absurd (false≢true no) })
      | inr other ↦ simp other (record { proper = tt; paid = omega arith; finished = tt })
    ]
due_by mode pending byte at Print fits = record { proper = within 32 126 byte fits; paid = omega arith; finished = λ no. absurd (false≢true no) }
due_by mode pending byte at Mark fits = record { proper = tt; paid = omega arith; finished = λ no. absurd (false≢true no) }
due_by mode pending byte at Join fits =
    elim (cases_Bool (is_whole mode (pending ++ byte ∷ []))) [
      | inl whole ↦ simp whole (subst (IsDue (length pending + 1) []) (sym (meaning_push mode pending byte))
          (whole_due mode pending byte (sym (is_whole_push mode pending byte) ∙ whole)))
      | inr more ↦ let long = length_push pending byte in simp more (record { proper = tt; paid = omega arith; finished = tt })
    ]
due_by mode pending byte at Cancel fits = record { proper = tt; paid = omega arith; finished = λ _. refl }
due_by mode pending byte at _ fits = record { proper = tt; paid = omega arith; finished = tt }

due : (mode : Mode) (pending : List ℕ) (byte : ℕ) → IsDue (length pending + 1) (pending_after mode pending byte) (command_of mode pending byte)
unfolding command_of pending_after
due mode pending byte = let at = context_of mode pending in due_by mode pending byte at (action_of at byte) (fit at byte)

-- ---- the laws

pub commands_are_proper : CommandsAreProper
commands_are_proper m p byte = (due m p byte).proper

pub pending_pays : PendingPays
pending_pays m p byte = (due m p byte).paid

pub finished_leaves_nothing : FinishedLeavesNothing
finished_leaves_nothing m p byte command gives =
    subst (λ (it : Option Command). IfSome it (λ c. is_sequence c ≡ true → pending_after m p byte ≡ [])) gives (due m p byte).finished

pub graphic_is_shown : GraphicIsShown
unfolding command_of pending_after
graphic_is_shown m byte is = let kind = graphic_on_ground byte is in let at = same_context m [] _ (shows_none m) in (simp (kind, at), simp (kind, at))

pub control_is_given : ControlIsGiven
unfolding command_of pending_after
control_is_given m byte is =
    let kind = control_on_ground byte is in let at = same_context m [] _ (shows_none m) in (simp (kind, at, is), simp (kind, at))

-- no byte of a run is anything but a graphic character
pub runs_are_graphic : (bytes : List ℕ) (n : ℕ) → n ≤ prefix_len is_graphic bytes → list_all is_graphic (take n bytes) ≡ true
runs_are_graphic bytes zero le = refl
runs_are_graphic [] (suc n) le = refl
runs_are_graphic (byte ∷ rest) (suc n) le = grind (arith, runs_are_graphic rest n)
