-- The sequences of the control syntax, told over their raw bytes from the ESC on.
use Rattle.std.specs.Prelude.{ℕ, ◌+◌, ◌-◌, ◌*◌, min, Bool, false, not, ◌==◌, ◌||◌, ◌&&◌, nat_lt, if◌then◌else◌, List, [], ◌∷◌, length, map, take, drop, fold, slice_index, Option, Some, None}
use Rattle.std.specs.List.{list_all, slice_split}
use Rattle.arrayvec.specs.ArrayVec.{ArrayVec}
use Rattle.vt_parser.specs.declared.commands.Mode.{Mode}
use Rattle.vt_parser.specs.declared.commands.Mode.TheVariants.{Ansi, Vt52 as Vt52Mode}
use Rattle.vt_parser.specs.declared.commands.Command.{Command}
use Rattle.vt_parser.specs.declared.commands.Command.TheVariants.{Esc, Csi, Vt52, Vt52Address}
use Rattle.vt_parser.specs.Syntax.{escape, is_within, is_graphic}

-- ---- bytes and their parts

-- an intermediate byte (ECMA-48 section 5.4, ECMA-35 section 13.2)
abbrev pub is_intermediate : ℕ → Bool
is_intermediate byte = is_within 32 47 byte

-- the final byte of an escape sequence (ECMA-35 section 13.2)
abbrev pub is_escape_final : ℕ → Bool
is_escape_final byte = is_within 48 126 byte

-- a parameter or intermediate byte of a control sequence (ECMA-48 section 5.4)
abbrev pub is_control_sequence_text : ℕ → Bool
is_control_sequence_text byte = is_within 32 63 byte

-- the final byte of a control sequence (ECMA-48 section 5.4)
abbrev pub is_control_sequence_final : ℕ → Bool
is_control_sequence_final byte = is_within 64 126 byte

-- `[`, which makes ESC [ the control sequence introducer (ECMA-48 section 8.3.16)
abbrev pub bracket : ℕ
bracket = 91

-- ESC and this byte introduce a control sequence
abbrev pub begins_control_sequence : ℕ → Bool
begins_control_sequence byte = byte == bracket

-- P, X, ], ^ and _, which open DCS, SOS, OSC, PM and APC (ECMA-48 section 5.6)
abbrev pub begins_string : ℕ → Bool
begins_string byte = (byte == 80) || (byte == 88) || (byte == 93) || (byte == 94) || (byte == 95)

-- Y, which opens a direct cursor address (EK-VT100-UG chapter 3, VT52 mode)
abbrev pub begins_address : ℕ → Bool
begins_address byte = byte == 89

-- all bytes but the last
abbrev pub front : List ℕ → List ℕ
front [] = []
front (byte ∷ []) = []
front (byte ∷ next ∷ rest) = byte ∷ front (next ∷ rest)

-- the last byte, and 0 where there is none
abbrev pub final : List ℕ → ℕ
final [] = 0
final (byte ∷ []) = byte
final (byte ∷ next ∷ rest) = final (next ∷ rest)

-- ---- beginnings of sequences

-- ESC alone
abbrev pub is_lone_escape : List ℕ → Bool
is_lone_escape [] = false
is_lone_escape (byte ∷ []) = byte == escape
is_lone_escape (byte ∷ next ∷ rest) = false

-- ESC and intermediate bytes
abbrev pub is_escape_begun : List ℕ → Bool
is_escape_begun [] = false
is_escape_begun (byte ∷ rest) = byte == escape && list_all is_intermediate rest

-- ESC [ and parameter or intermediate bytes
abbrev pub is_control_sequence_begun : List ℕ → Bool
is_control_sequence_begun [] = false
is_control_sequence_begun (byte ∷ []) = false
is_control_sequence_begun (byte ∷ next ∷ rest) =
    byte == escape && begins_control_sequence next && list_all is_control_sequence_text rest

-- ESC and the opening of a string, whose content isn't kept
abbrev pub is_string_begun : List ℕ → Bool
is_string_begun [] = false
is_string_begun (byte ∷ []) = false
is_string_begun (byte ∷ next ∷ []) = byte == escape && begins_string next
is_string_begun (byte ∷ next ∷ third ∷ rest) = false

-- ESC Y
abbrev pub is_address_begun : List ℕ → Bool
is_address_begun [] = false
is_address_begun (byte ∷ []) = false
is_address_begun (byte ∷ next ∷ []) = byte == escape && begins_address next
is_address_begun (byte ∷ next ∷ third ∷ rest) = false

-- ESC Y and the byte of the line
abbrev pub is_line_begun : List ℕ → Bool
is_line_begun [] = false
is_line_begun (byte ∷ []) = false
is_line_begun (byte ∷ next ∷ []) = false
is_line_begun (byte ∷ next ∷ line ∷ []) = byte == escape && begins_address next && is_graphic line
is_line_begun (byte ∷ next ∷ line ∷ fourth ∷ rest) = false

-- ---- whole sequences

-- An escape sequence: directly after ESC the bytes [ P X ] ^ _ are no final bytes, since they open something longer.
abbrev pub ends_escape : List ℕ → ℕ → Bool
ends_escape begun last =
    is_escape_begun begun && is_escape_final last
    && not (is_lone_escape begun && (begins_control_sequence last || begins_string last))

-- a control sequence: its introducer, a text and a final byte (ECMA-48 section 5.4)
abbrev pub ends_control_sequence : List ℕ → ℕ → Bool
ends_control_sequence begun last = is_control_sequence_begun begun && is_control_sequence_final last

-- a sequence of VT52 mode: ESC and one byte other than Y (EK-VT100-UG chapter 3)
abbrev pub ends_vt52 : List ℕ → ℕ → Bool
ends_vt52 begun last = is_lone_escape begun && is_graphic last && not (begins_address last)

-- a direct cursor address of VT52 mode: ESC Y, line and column (EK-VT100-UG chapter 3)
abbrev pub ends_address : List ℕ → ℕ → Bool
ends_address begun last = is_line_begun begun && is_graphic last

-- the bytes are one whole sequence, and no more
unfoldable pub is_whole : Mode → List ℕ → Bool
is_whole Ansi bytes = ends_control_sequence (front bytes) (final bytes) || ends_escape (front bytes) (final bytes)
is_whole Vt52Mode bytes = ends_address (front bytes) (final bytes) || ends_vt52 (front bytes) (final bytes)

-- ---- parameters

-- 0 to 9
abbrev pub is_digit : ℕ → Bool
is_digit byte = is_within 48 57 byte

-- `;` parts the parameters (ECMA-48 section 5.4.2)
abbrev pub is_semicolon : ℕ → Bool
is_semicolon byte = byte == 59

-- `?`, which at the head of a text makes the sequence a private one (ECMA-48 section 5.4.1, EK-VT100-UG chapter 3)
abbrev pub question_mark : ℕ
question_mark = 63

-- a text with that mark
abbrev pub is_private : List ℕ → Bool
is_private [] = false
is_private (byte ∷ rest) = byte == question_mark

-- the text without that mark
abbrev pub after_mark : List ℕ → List ℕ
after_mark [] = []
after_mark (byte ∷ rest) = if byte == question_mark then rest else byte ∷ rest

-- a byte of which numbers and their parting are made
abbrev pub is_plain : ℕ → Bool
is_plain byte = is_digit byte || is_semicolon byte

-- an optional ? and then digits and ; alone
abbrev pub is_well_formed : List ℕ → Bool
is_well_formed text = list_all is_plain (after_mark text)

-- the decimal value of digits, and 0 of none
abbrev pub decimal_value : List ℕ → ℕ
decimal_value digits = fold (λ value digit. 10 * value + (digit - 48)) 0 digits

-- the greatest parameter (ours)
abbrev pub greatest_param : ℕ
greatest_param = 9999

-- a parameter: its decimal value, at most the greatest (ours)
abbrev pub parameter : List ℕ → ℕ
parameter piece = min greatest_param (decimal_value piece)

-- every parameter of a text without its mark
unfoldable pub numbers : List ℕ → List ℕ
numbers text = map parameter (slice_split is_semicolon text)

-- how many parameters count (ours)
abbrev pub most_params : ℕ
most_params = 16

-- the parameters that count
abbrev pub params : List ℕ → List ℕ
params text = take most_params (numbers text)

-- there are more parameters than count
abbrev pub has_more : List ℕ → Bool
has_more text = nat_lt most_params (length (numbers text))

-- a list of numbers, as a command holds it
abbrev pub held : List ℕ → ArrayVec ℕ
held numbers = record { items = numbers }

-- ---- what a whole sequence asks for

-- of an escape sequence by its intermediates; two or more have no effect
abbrev pub escape_meaning : List ℕ → ℕ → Option Command
escape_meaning [] last = Some (Esc None last)
escape_meaning (inter ∷ []) last = Some (Esc (Some inter) last)
escape_meaning (inter ∷ next ∷ rest) last = None

-- of a control sequence by its text; one that isn't well formed has no effect (ours)
abbrev pub control_sequence_meaning : List ℕ → ℕ → Option Command
control_sequence_meaning text last =
    if is_well_formed text then Some (Csi (is_private text) (held (params (after_mark text))) last) else None

-- of an address: line and column are the bytes less 31 (EK-VT100-UG chapter 3)
abbrev pub address_meaning : ℕ → ℕ → Option Command
address_meaning line column = Some (Vt52Address (line - 31) (column - 31))

-- the command of a whole sequence, and none where its form has no effect
unfoldable pub meaning : Mode → List ℕ → Option Command
meaning Ansi bytes =
    if is_control_sequence_begun (front bytes) then control_sequence_meaning (drop 2 (front bytes)) (final bytes)
    else escape_meaning (drop 1 (front bytes)) (final bytes)
meaning Vt52Mode bytes =
    if is_line_begun (front bytes) then address_meaning (slice_index (front bytes) 2) (final bytes)
    else Some (Vt52 (final bytes))
