-- What a parser shows of the bytes of a sequence that isn't finished.
use Rattle.std.specs.Prelude.{◌≡◌, ℕ, if◌then◌else◌, List, [], ◌∷◌, drop, slice_index, Option, Some, None}
use Rattle.vt_parser.specs.declared.commands.Mode.{Mode}
use Rattle.vt_parser.specs.declared.commands.Mode.TheVariants.{Ansi, Vt52}
use Rattle.vt_parser.specs.declared.states.ParserState.{ParserState}
use Rattle.vt_parser.specs.declared.states.ParserState.TheVariants.{Ground, Escape, EscapeOne, EscapeMany, CsiStart, Csi, CsiIgnored, Text, Vt52Escape, Vt52Line, Vt52Column}
use Rattle.vt_parser.specs.Forms.{is_control_sequence_begun, is_string_begun, is_escape_begun, is_lone_escape, is_address_begun, is_line_begun, is_well_formed, is_private, after_mark, params, has_more, held}

-- of ESC and intermediates, by the intermediates
abbrev pub escape_view : List ℕ → ParserState
escape_view [] = Escape
escape_view (inter ∷ []) = EscapeOne inter
escape_view (inter ∷ next ∷ rest) = EscapeMany

-- of ESC [ and a text, by the text
abbrev pub control_sequence_view : List ℕ → ParserState
control_sequence_view [] = CsiStart
control_sequence_view (byte ∷ rest) =
    if is_well_formed (byte ∷ rest)
    then Csi (is_private (byte ∷ rest)) (held (params (after_mark (byte ∷ rest)))) (has_more (after_mark (byte ∷ rest)))
    else CsiIgnored

-- of bytes that are pending in ANSI mode
abbrev pub ansi_view : List ℕ → Option ParserState
ansi_view pending =
    if is_control_sequence_begun pending then Some (control_sequence_view (drop 2 pending))
    else (if is_string_begun pending then Some Text
    else (if is_escape_begun pending then Some (escape_view (drop 1 pending))
    else None))

-- of bytes that are pending in VT52 mode
abbrev pub vt52_view : List ℕ → Option ParserState
vt52_view pending =
    if is_lone_escape pending then Some Vt52Escape
    else (if is_address_begun pending then Some Vt52Line
    else (if is_line_begun pending then Some (Vt52Column (slice_index pending 2))
    else None))

-- The state that shows these pending bytes, which are read in this mode: none where no such bytes can be pending.
unfoldable pub parser_view : Mode → List ℕ → Option ParserState
parser_view Ansi [] = Some Ground
parser_view Vt52 [] = Some Ground
parser_view Ansi (byte ∷ rest) = ansi_view (byte ∷ rest)
parser_view Vt52 (byte ∷ rest) = vt52_view (byte ∷ rest)

-- The state shows some pending bytes.
abbrev pub IsShown : ParserState → Type 0
IsShown state = (mode : Mode) × (pending : List ℕ) × (parser_view mode pending ≡ Some state)
