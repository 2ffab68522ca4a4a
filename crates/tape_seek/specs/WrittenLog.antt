-- How edits are written: a request line for each (ours).
use Rattle.std.specs.Prelude.{ℕ, List, [], ◌∷◌, ◌++◌, codes}
use Rattle.std.specs.Fmt.{decimal}
use Rattle.std.specs.List.{flat_map, join_with_byte}
use Rattle.hex.specs.Hex.{encode_lower}
use Rattle.tape_core.specs.Written.{seconds_form}
use Rattle.tape_seek.specs.declared.edits.Edit.{Edit}
use Rattle.tape_seek.specs.declared.edits.Edit.TheVariants.{Insert, Delete, Replace, Retime, Cap}

-- Bytes in lower-case hexadecimal, or `-` where there is none.
abbrev pub hex_form : List ℕ → List ℕ
hex_form [] = codes "-"
hex_form (b ∷ bs) = encode_lower (b ∷ bs)

-- The fields of an edit's line: numbers without needless zeros, delays in the SECONDS form.
abbrev pub edit_fields : Edit → List (List ℕ)
edit_fields (Insert at delay bytes) = codes "insert" ∷ decimal at ∷ seconds_form delay ∷ hex_form bytes ∷ []
edit_fields (Delete from to) = codes "delete" ∷ decimal from ∷ decimal to ∷ []
edit_fields (Replace at bytes) = codes "replace" ∷ decimal at ∷ hex_form bytes ∷ []
edit_fields (Retime at delay) = codes "retime" ∷ decimal at ∷ seconds_form delay ∷ []
edit_fields (Cap max) = codes "cap" ∷ seconds_form max ∷ []

-- An edit's line without its LF: one space between fields.
unfoldable pub edit_line : Edit → List ℕ
edit_line edit = join_with_byte 32 (edit_fields edit)

-- With its LF.
abbrev pub log_line : Edit → List ℕ
log_line edit = edit_line edit ++ 10 ∷ []

-- A line for each edit.
unfoldable pub log_text : List Edit → List ℕ
log_text edits = flat_map log_line edits
