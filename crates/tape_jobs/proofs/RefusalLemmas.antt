-- A recording of another form that is refused wasn't read.
use Rattle.std.proofs.Common.{◌≡◌, false, Some, refl}
use Rattle.tape_import.specs.declared.fault.ImportFault.{ImportFault}
use Rattle.tape_import.specs.declared.fault.ImportFault.TheVariants as of_import
use Rattle.tape_import.specs.declared.refusal.Refusal.{Refusal}
use Rattle.tape_import.specs.declared.refusal.Refusal.TheVariants as refusal
use Rattle.tape_jobs.specs.Notes.{was_read}
use Rattle.tape_jobs.specs.Output.{fault_of_import, fault_of_refusal}

form_unread : (f : ImportFault) → was_read (Some (fault_of_import f)) ≡ false
form_unread of_import.Compressed = refl
form_unread of_import.NoKnownForm = refl
form_unread of_import.OutOfMemory = refl

pub refusal_unread : (r : Refusal) → was_read (Some (fault_of_refusal r)) ≡ false
refusal_unread (refusal.Form f) = form_unread f
refusal_unread (refusal.Event at f) = refl
refusal_unread (refusal.Ends chunk) = refl
