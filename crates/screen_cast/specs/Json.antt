-- Text as it stands in a string of JSON (RFC 8259 section 7).
use Rattle.std.specs.Prelude.{ℕ, List, [], ◌∷◌, codes, if◌then◌else◌, ◌==◌}
use Rattle.std.specs.List.{flat_map}

-- a byte: the quotation mark and the backslash behind a backslash, ESC by its number, any other as it is
abbrev pub json_byte : ℕ → List ℕ
json_byte byte =
    if byte == 34 then codes "\\\""
    else (if byte == 92 then codes "\\\\" else (if byte == 27 then codes "\\u001b" else byte ∷ []))

unfoldable pub json : List ℕ → List ℕ
json text = flat_map json_byte text
