-- Which form a file has.
use Rattle.std.specs.Prelude.{ℕ, Bool, true, false, ◌&&◌, ◌||◌, List, [], ◌∷◌, codes, drop, is_some, length, nat_eq, nat_le, nat_lt, Option, Some, None, if◌then◌else◌}
use Rattle.std.specs.List.{starts_with}
use Rattle.json_bytes.specs.Marks.{begins, past_space}
use Rattle.json_bytes.specs.Values.{Json, member_of, string_of}
use Rattle.tape_import.specs.Asciicast.{header_of, version_of}
use Rattle.tape_import.specs.Ttyrec.{head_len, number_at}
use Rattle.tape_import.specs.declared.form.Form.{Form}
use Rattle.tape_import.specs.declared.form.Form.TheVariants as form
use Rattle.tape_import.specs.declared.version.Version.{Version}

-- A compressed file begins so: gzip (RFC 1952), bzip2, xz, Zstandard (RFC 8878).
abbrev pub is_compressed : List ℕ → Bool
is_compressed file =
    starts_with nat_eq file (31 ∷ 139 ∷ 8 ∷ []) || starts_with nat_eq file (codes "BZh")
    || starts_with nat_eq file (253 ∷ 55 ∷ 122 ∷ 88 ∷ 90 ∷ 0 ∷ []) || starts_with nat_eq file (40 ∷ 181 ∷ 47 ∷ 253 ∷ [])

-- A byte order mark at the front says UTF-8, and is dropped. Unicode.
abbrev pub mark_len : List ℕ → ℕ
mark_len file = if starts_with nat_eq file (239 ∷ 187 ∷ 191 ∷ []) then 3 else 0

-- A ttyrec begins with a whole head, whose microseconds are less than a second (ours).
abbrev pub is_ttyrec : List ℕ → Bool
is_ttyrec file = nat_le head_len (length file) && nat_lt (number_at 4 file) 1000000

abbrev pub unmarked : List ℕ → List ℕ
unmarked file = drop (mark_len file) file

-- A message of tlog is an object with strings `ver` and `timing`. tlog's message format.
abbrev pub is_message : Option Json → Bool
is_message value =
    is_some (string_of (member_of (codes "ver") value)) && is_some (string_of (member_of (codes "timing") value))

-- The form of a text that begins with a brace, by the value that its first line is: an asciicast of version 2 or 3 by
-- its header, tlog by its first message, and else an asciicast of version 1, which has many lines or one.
abbrev pub form_by : Option Version → Bool → Form
form_by (Some version) message = form.Asciicast version
form_by None true = form.Tlog
form_by None false = form.AsciicastOne

abbrev pub form_of_line : Option Json → Form
form_of_line value = form_by (version_of value) (is_message value)

-- The form of a text (ours).
abbrev pub form_of : List ℕ → Form
form_of text =
    if is_ttyrec text then form.Ttyrec
    else if begins 123 (past_space text) then form_of_line (header_of text)
    else form.Unknown
