-- What is read of a file as a whole, by what was lost.
use Rattle.std.proofs.Common.{◌≡◌, Result, Ok, Err, Some, None, refl, ap, sym, ◌∙◌}
use Rattle.tape_core.specs.Tape.{Tape}
use Rattle.tape_import.specs.Imported.{Import}
use Rattle.tape_import.specs.ImportedFile.{IsImported}
use Rattle.tape_import.specs.Refusal.{IsWhole, first_fault, refusal_of}
use Rattle.tape_import.specs.declared.fault.ImportFault.{ImportFault}
use Rattle.tape_import.specs.declared.losses.Losses.{Losses}
use Rattle.tape_import.specs.declared.refusal.Refusal.{Refusal}

-- where there is no fault among the losses, it is whole
pub whole_by : (read : Result Import ImportFault) (tape : Tape) (losses : Losses) → IsImported read tape losses → first_fault losses ≡ None
    → IsWhole read tape losses.others.resizes
whole_by (Ok what) tape losses is none = record {
  whole = ap first_fault (sym is.lost) ∙ none;
  imported = record { fitting = is.fitting; header = is.header; chunks = is.chunks; trailer = is.trailer; lost = refl };
  resizes = ap (λ (l : Losses). l.others.resizes) is.lost;
}
whole_by (Err fault) tape losses is none = absurd is

-- else it is refused with the first one
pub refused_by : (read : Result Import ImportFault) (tape : Tape) (losses : Losses) (refusal : Refusal) → IsImported read tape losses
    → first_fault losses ≡ Some refusal → refusal_of read ≡ Some refusal
refused_by (Ok what) tape losses refusal is some = ap first_fault (sym is.lost) ∙ some
refused_by (Err fault) tape losses refusal is some = absurd is
