-- Edits of a job's own, which were all made, or of which one was refused.
use Rattle.std.proofs.Common.{◌≡◌, ◌⊎◌, ◌∙◌, List, Option, Some, Ok, ap, inl, inr, sym}
use Rattle.tape_core.specs.Tape.{Tape}
use Rattle.tape_cut.specs.CutEdits.{first_fault}
use Rattle.tape_cut.specs.Making.{AreMade, IsRefused}
use Rattle.tape_seek.specs.Edits.{edited_all}
use Rattle.tape_seek.specs.State.{StateOf}
use Rattle.tape_seek.specs.declared.edits.Edit.{Edit}
use Rattle.tape_seek.specs.declared.edits.EditFault.{EditFault}
use Rattle.tape_seek.specs.declared.edits.EditFault.TheVariants.{OutOfMemory}
use Rattle.tape_jobs.specs.Output.{fault_of_edit}
use Rattle.tape_jobs.specs.Requests.{StopsMaking, made_by, unless_faulty}

pub all_made : {P : Type 0} (edits : List Edit) (old new : StateOf P) → AreMade edits old new
    → made_by edits old.recording ≡ Ok new.recording
all_made edits old new are =
    ap (λ first. unless_faulty first (edited_all old.recording edits)) are.faultless ∙ ap (λ (t : Tape). Ok t) (sym are.recording)

-- for its fault, or for want of memory, which is no fault of an edit
stops : (first : Option EditFault) (tape : Tape) (f : EditFault) → (f ≡ OutOfMemory) ⊎ (first ≡ Some f)
    → StopsMaking (unless_faulty first tape) (fault_of_edit f)
stops first tape OutOfMemory why = tt
stops first tape f (inl e) = absurd (cc)
stops first tape f (inr e) = ap (λ o. unless_faulty o tape) e

pub stops_making : {P : Type 0} (edits : List Edit) (old new : StateOf P) (f : EditFault) → IsRefused edits old new f
    → StopsMaking (made_by edits old.recording) (fault_of_edit f)
stops_making edits old new f refused =
    stops (first_fault old.recording edits) (edited_all old.recording edits) f refused.why
