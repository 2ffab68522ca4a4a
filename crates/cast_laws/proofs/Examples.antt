-- Two recordings, worked through.
use Rattle.std.proofs.Common.{◌≡◌, [], ◌∷◌, ◌++◌, codes, Ok, refl}
use Rattle.std.specs.Char.{encode_utf8}
use Rattle.std.specs.Fmt.{digits}
use Rattle.characters.specs.Utf8.{decoded, row_of}
use Rattle.json_bytes.specs.Values.{value}
use Rattle.output_cast.specs.Cast.{cast_text, event_closing, event_opening, header_line}
use Rattle.output_cast.specs.Events.{events_from}
use Rattle.output_cast.specs.Json.{json_character, json_text}
use Rattle.tape_core.specs.Tape.{Tape}
use Rattle.tape_core.specs.Written.{seconds_form}
use Rattle.tape_import.specs.ImportedFile.{import_of}
use Rattle.cast_laws.specs.Whole.{chunks_of, read_of}

-- half a second, and a letter
abbrev letter : Tape
letter = record { header = []; chunks = record { delay = 500000; bytes = 97 ∷ [] } ∷ []; trailer = [] }

letter_cast : cast_text 80 24 letter ≡ codes "{\"version\": 2, \"width\": 80, \"height\": 24}\n[0.500000, \"o\", \"a\"]\n"
unfolding cast_text header_line event_opening event_closing events_from decoded json_text json_character encode_utf8 seconds_form digits
letter_cast = refl

letter_chunks : chunks_of letter ≡ record { delay = 500000; bytes = 97 ∷ [] } ∷ []
unfolding events_from decoded encode_utf8
letter_chunks = refl

-- a character over two chunks, and behind it a quote and a control
abbrev parted : Tape
parted = record {
  header = [];
  chunks = record { delay = 1000000; bytes = 0xC3 ∷ [] } ∷ record { delay = 250000; bytes = 0xA9 ∷ 34 ∷ 7 ∷ [] } ∷ [];
  trailer = [];
}

parted_cast : cast_text 80 24 parted ≡ codes "{\"version\": 2, \"width\": 80, \"height\": 24}\n[1.250000, \"o\", \"" ++ 0xC3 ∷ 0xA9 ∷ codes "\\\"\\u0007\"]\n"
unfolding cast_text header_line event_opening event_closing events_from decoded row_of json_text json_character encode_utf8 seconds_form digits
parted_cast = refl

parted_chunks : chunks_of parted ≡ record { delay = 1250000; bytes = 0xC3 ∷ 0xA9 ∷ 34 ∷ 7 ∷ [] } ∷ []
unfolding events_from decoded row_of encode_utf8
parted_chunks = refl

-- each is read from its text alone
letter_imported : import_of (codes "{\"version\": 2, \"width\": 80, \"height\": 24}\n[0.500000, \"o\", \"a\"]\n") ≡ Ok (read_of 80 24 letter)
unfolding value events_from decoded encode_utf8
letter_imported = refl
