-- A recording of chunks within the limits.
use Rattle.std.proofs.Common.{◌≡◌, ℕ, List, Result, Ok, Err, sym, subst}
use Rattle.tape_core.specs.declared.chunk.Chunk.{Chunk}
use Rattle.tape_core.specs.Tape.{IsHeader, Tape, fits}
use Rattle.tape_core.proofs.OneReadingLemmas.{written_reads}
use Rattle.tape_import.specs.Imported.{Import}
use Rattle.tape_import.specs.ImportedFile.{IsImported}
use Rattle.tape_import.specs.Law.{ReadsBack}
use Rattle.tape_import.specs.declared.fault.ImportFault.{ImportFault}
use Rattle.tape_import.specs.declared.losses.Losses.{Losses}
use Rattle.tape_import.specs.Kept.{AreWithin}

-- it fits them too, where its header is a line
pub imported_fits : (header : List ℕ) (chunks items : List Chunk) (trailer : List ℕ) → IsHeader header → items ≡ chunks
    → AreWithin chunks → fits (record { header = header; chunks = items; trailer = trailer })
imported_fits header chunks items trailer line is within =
    let w : AreWithin items = subst AreWithin (sym is) within in
    record { header = line; few = w.few; delays = w.delays; lengths = w.lengths; bytes = w.small }

-- what is imported is read again
pub read_again : (read : Result Import ImportFault) (tape : Tape) (losses : Losses) → IsImported read tape losses → ReadsBack tape
read_again (Ok what) tape losses is = record { fitting = is.fitting; read = written_reads tape is.fitting }
read_again (Err fault) tape losses is = absurd is
