-- What a text begins with, as far as a hint depends on it.
use Rattle.std.specs.Prelude.{◌==◌, ◌+◌, ℕ, Bool, true, false, List, Option, Some, None, cond, ◌&&◌, ◌||◌, not, nat_lt, slice_index, codes, is_none, [], ◌∷◌, length, if◌then◌else◌}
use Rattle.job_files.specs.declared.beginning.Beginning.{Beginning}
use Rattle.job_files.specs.declared.beginning.Begun.{Begun}
use Rattle.job_files.specs.declared.beginning.FirstField.{FirstField}
use Rattle.job_files.specs.declared.beginning.FirstField.TheVariants.{Awaited, Letter, Stream, Other}
use Rattle.job_files.specs.declared.packing.Packer.{Packer}
use Rattle.job_files.specs.declared.packing.Packer.TheVariants.{Gzip, Bzip2, Xz, Zstd}
use Rattle.job_files.specs.declared.packing.Packing.{Packing}
use Rattle.job_files.specs.declared.packing.Packing.TheVariants as packing

-- the bytes with which a typescript begins. script(1)
abbrev pub session : List ℕ
session = codes "Script started on "

-- what stands between fields and lines: space, tab and LF (ours)
abbrev pub is_gap : ℕ → Bool
is_gap byte = byte == 32 || byte == 9 || byte == 10

-- the letter of a stream of the multi-stream format: H, I, O and S. script(1), "advanced"
abbrev pub is_stream : ℕ → Bool
is_stream byte = byte == 72 || byte == 73 || byte == 79 || byte == 83

-- with which bytes a compressed file begins. gzip: RFC 1952; bzip2(1); the .xz file format; Zstandard: RFC 8878
abbrev pub magic_of : Packer → List ℕ
magic_of Gzip = 31 ∷ 139 ∷ 8 ∷ []
magic_of Bzip2 = codes "BZh"
magic_of Xz = 253 ∷ 55 ∷ 122 ∷ 88 ∷ 90 ∷ 0 ∷ []
magic_of Zstd = 40 ∷ 181 ∷ 47 ∷ 253 ∷ []

-- whose first one a byte is (ours)
abbrev pub packer_of : ℕ → Option Packer
packer_of byte =
    if byte == 31 then Some Gzip
    else if byte == 66 then Some Bzip2
    else if byte == 253 then Some Xz
    else if byte == 40 then Some Zstd
    else None

-- how many of them have come, behind one more byte: none, once another byte stood there (ours)
abbrev pub packed_first : Option Packer → Packing
packed_first None = packing.Other
packed_first (Some packer) = packing.Come packer 1

abbrev pub packing_after : Packing → ℕ → Packing
packing_after packing.Awaited byte = packed_first (packer_of byte)
packing_after (packing.Come packer n) byte =
    cond (nat_lt n (length (magic_of packer)))
    (cond (slice_index (magic_of packer) n == byte) (packing.Come packer (n + 1)) packing.Other) (packing.Come packer n)
packing_after packing.Other byte = packing.Other

-- all of them have (ours)
abbrev pub is_packed : Packing → Bool
is_packed packing.Awaited = false
is_packed (packing.Come packer n) = not (nat_lt n (length (magic_of packer)))
is_packed packing.Other = false

-- of the empty text (ours)
abbrev pub nothing : Beginning
nothing = record { empty = true; session = Some 0; started = false; packing = packing.Awaited; first = Awaited }

-- how many bytes are a typescript's first ones, behind one more: none are, once another byte stood there (ours)
abbrev pub session_after : Option ℕ → ℕ → Option ℕ
session_after None byte = None
session_after (Some n) byte = cond (nat_lt n 18) (cond (slice_index session n == byte) (Some (n + 1)) None) (Some n)

-- they are just its first two words, `Script started` (ours)
abbrev pub is_two_words : Option ℕ → Bool
is_two_words None = false
is_two_words (Some n) = n == 14

-- the first field, behind one more byte (ours)
abbrev pub field_after : FirstField → ℕ → FirstField
field_after Awaited byte = cond (is_gap byte) Awaited (cond (is_stream byte) Letter Other)
field_after Letter byte = cond (is_gap byte) Stream Other
field_after Stream byte = Stream
field_after Other byte = Other

-- of a text that goes on with this byte (ours)
abbrev pub after_byte : Beginning → ℕ → Beginning
after_byte beginning byte = record {
  empty = false;
  session = session_after beginning.session byte;
  started = is_two_words (session_after beginning.session byte) || beginning.started;
  packing = packing_after beginning.packing byte;
  first = field_after beginning.first byte;
}

-- the text has no byte (ours)
abbrev pub is_empty : Beginning → Bool
is_empty beginning = beginning.empty

-- it begins as script(1) begins a typescript (ours)
abbrev pub is_all : Option ℕ → Bool
is_all None = false
is_all (Some n) = n == 18

abbrev pub is_typescript : Beginning → Bool
is_typescript beginning = is_all beginning.session

-- it begins with the first two words of these (ours)
abbrev pub is_started : Beginning → Bool
is_started beginning = beginning.started

-- it begins as a compressed file does (ours)
abbrev pub is_compressed : Beginning → Bool
is_compressed beginning = is_packed beginning.packing

-- its first field is the letter of a stream (ours)
abbrev pub is_letter : FirstField → Bool
is_letter Awaited = false
is_letter Letter = true
is_letter Stream = true
is_letter Other = false

abbrev pub is_streams : Beginning → Bool
is_streams beginning = is_letter beginning.first

-- Private: nothing that comes changes it (ours)
abbrev pub is_whole : FirstField → Bool
is_whole Awaited = false
is_whole Letter = false
is_whole Stream = true
is_whole Other = true

abbrev pub is_past : Packing → Bool
is_past packing.Awaited = false
is_past (packing.Come packer n) = not (nat_lt n (length (magic_of packer)))
is_past packing.Other = true

abbrev pub is_settled : Beginning → Bool
is_settled beginning = (not beginning.empty && (is_none beginning.session || is_typescript beginning))
    && (is_past beginning.packing && is_whole beginning.first)

-- a reader that is looked at tells what the one inside tells (ours)
abbrev pub remaining_of : {R : Type 0} → (R → Option (List ℕ)) → Begun R → Option (List ℕ)
remaining_of remaining reader = remaining reader.inner
