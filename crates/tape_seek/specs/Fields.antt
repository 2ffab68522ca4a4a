-- Private: the fields that an edit is written with, for the functions that write them.
use Rattle.std.specs.Prelude.{ℕ, List, ◌∷◌}
use Rattle.std.specs.Fmt.{decimal}
use Rattle.tape_core.specs.Written.{seconds_form}
use Rattle.tape_seek.specs.declared.written_log.Field.{Field}
use Rattle.tape_seek.specs.declared.written_log.Field.TheVariants.{Place, Seconds, Bytes}
use Rattle.tape_seek.specs.WrittenLog.{hex_form}

abbrev pub field_text : Field → List ℕ
field_text (Place place) = decimal place
field_text (Seconds us) = seconds_form us
field_text (Bytes bytes) = hex_form bytes.now

-- With the space before it.
abbrev pub spaced : Field → List ℕ
spaced field = 32 ∷ field_text field
