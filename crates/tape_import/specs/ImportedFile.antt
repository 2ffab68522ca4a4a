-- What is read of a whole file, in whatever form it is.
use Rattle.std.specs.Prelude.{ℕ, List, codes, Result, Ok, Err, if◌then◌else◌}
use Rattle.tape_core.specs.Tape.{Tape}
use Rattle.tape_import.specs.AsciicastOne.{asciicast_one_of, is_asciicast_one}
use Rattle.tape_import.specs.Form.{form_of, is_compressed, unmarked}
use Rattle.tape_import.specs.Imported.{Import, Imports, import_of_ttyrec}
use Rattle.tape_import.specs.ImportedCast.{import_of_cast, import_of_one}
use Rattle.tape_import.specs.TlogImported.{import_of_tlog}
use Rattle.tape_import.specs.declared.fault.ImportFault.{ImportFault}
use Rattle.tape_import.specs.declared.fault.ImportFault.TheVariants as fault
use Rattle.tape_import.specs.declared.form.Form.{Form}
use Rattle.tape_import.specs.declared.form.Form.TheVariants as form
use Rattle.tape_import.specs.declared.losses.Losses.{Losses}

-- What is read of a text in this form, or why there is nothing to be read.
abbrev pub import_as : Form → List ℕ → Result Import ImportFault
import_as form.Ttyrec text = Ok (import_of_ttyrec text)
import_as (form.Asciicast version) text = Ok (import_of_cast version text)
import_as form.Tlog text = Ok (import_of_tlog text)
import_as form.AsciicastOne text =
    if is_asciicast_one text then Ok (import_of_one (asciicast_one_of text)) else Err fault.NoKnownForm
import_as form.Unknown text = Err fault.NoKnownForm

abbrev pub import_of : List ℕ → Result Import ImportFault
import_of file =
    if is_compressed file then Err fault.Compressed else import_as (form_of (unmarked file)) (unmarked file)

-- A file of which something is read is imported as this recording, and this was lost.
abbrev pub IsImported : Result Import ImportFault → Tape → Losses → Type 0
IsImported (Ok what) tape losses = Imports what tape losses
IsImported (Err fault) tape losses = ⊥

-- The text of each fault, as the program prints it (ours).
abbrev pub import_message : ImportFault → List ℕ
import_message fault.Compressed = codes "recording is compressed"
import_message fault.NoKnownForm = codes "recording of no known form"
import_message fault.OutOfMemory = codes "out of memory"
