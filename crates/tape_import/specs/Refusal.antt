-- A recording of another form in place of a pair: it is read as a whole, or refused (ours).
use Rattle.std.specs.Prelude.{◌≡◌, ℕ, List, ◌++◌, codes, Option, Some, None, Result, Ok, Err}
use Rattle.std.specs.Fmt.{decimal}
use Rattle.std.specs.Option.{option_map, option_or}
use Rattle.tape_core.specs.Tape.{Tape}
use Rattle.tape_import.specs.Imported.{Import, Imports}
use Rattle.tape_import.specs.ImportedFile.{import_message}
use Rattle.tape_import.specs.Told.{fault_text, place_text}
use Rattle.tape_import.specs.declared.fault.EventFault.TheVariants as event
use Rattle.tape_import.specs.declared.fault.ImportFault.{ImportFault}
use Rattle.tape_import.specs.declared.losses.At.{At}
use Rattle.tape_import.specs.declared.losses.Cut.{Cut}
use Rattle.tape_import.specs.declared.losses.Late.{Late}
use Rattle.tape_import.specs.declared.losses.Left.{Left}
use Rattle.tape_import.specs.declared.losses.Losses.{Losses}
use Rattle.tape_import.specs.declared.losses.Place.TheVariants as place
use Rattle.tape_import.specs.declared.refusal.Refusal.{Refusal}
use Rattle.tape_import.specs.declared.refusal.Refusal.TheVariants as refusal

-- Each loss that a recording is refused for, as its fault: messages that begin late are out of order in the line of the
-- first one, and a delay that is cut is too large.
abbrev pub late_fault : Late → Refusal
late_fault late = refusal.Event (record { place = place.Line; number = late.line }) event.OutOfOrder

abbrev pub slow_fault : At → Refusal
slow_fault at = refusal.Event at event.DelayTooLarge

abbrev pub left_fault : Left → Refusal
left_fault left = refusal.Event (record { place = left.place; number = left.number }) left.fault

abbrev pub cut_fault : Cut → Refusal
cut_fault cut = refusal.Ends cut.chunk

-- The first of them in the file's order: the first message stands before all outputs, an output whose delay is cut before
-- what ends the reading, and the chunk that is cut at the file's end. Changes of size and other events refuse nothing.
abbrev pub first_fault : Losses → Option Refusal
first_fault losses =
    option_or (option_map late_fault losses.first)
    (option_or (option_map slow_fault losses.first_slow)
    (option_or (option_map left_fault losses.left) (option_map cut_fault losses.cut)))

-- Why a file isn't read as a whole, by what is read of it: it has no form that is read, or a fault.
abbrev pub refusal_of : Result Import ImportFault → Option Refusal
refusal_of (Err fault) = Some (refusal.Form fault)
refusal_of (Ok what) = first_fault what.losses

-- It is read as a whole, as this recording, of which so many changes of size were left out.
pub record ReadsWhole (what : Import) (tape : Tape) (count : ℕ) : Type 0 where
  pub whole : first_fault what.losses ≡ None
  pub imported : Imports what tape what.losses
  pub resizes : count ≡ what.losses.others.resizes

abbrev pub IsWhole : Result Import ImportFault → Tape → ℕ → Type 0
IsWhole (Ok what) tape count = ReadsWhole what tape count
IsWhole (Err fault) tape count = ⊥

-- The text of each refusal, as the program prints it.
abbrev pub refusal_message : Refusal → List ℕ
refusal_message (refusal.Form fault) = import_message fault
refusal_message (refusal.Event at fault) = place_text at.place ++ decimal at.number ++ codes ": " ++ fault_text fault
refusal_message (refusal.Ends chunk) = codes "recording ends inside chunk " ++ decimal chunk
