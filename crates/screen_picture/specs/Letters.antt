-- The letters of a row: one <text>, with a <tspan> for each run (ours).
use Rattle.std.specs.Prelude.{ℕ, ◌+◌, ◌-◌, ◌*◌, Bool, List, [], ◌∷◌, ◌++◌, codes, decimal, if◌then◌else◌, ◌==◌}
use Rattle.std.specs.List.{flat_map, range_with_len}
use Rattle.vt_screen.specs.declared.cell.Cell.{Cell}
use Rattle.vt_screen.specs.declared.cell.Row.{Row}
use Rattle.screen_rows.specs.Texts.{text_where}
use Rattle.screen_rows.specs.RowText.{printed}
use Rattle.screen_rows.specs.declared.runs.Kind.{Kind}
use Rattle.screen_rows.specs.declared.runs.Run.{Run}
use Rattle.screen_rows.specs.Runs.{cells_of, runs_of}

-- ---- text in XML

-- a byte as it stands in XML
abbrev pub escaped_byte : ℕ → List ℕ
escaped_byte byte =
    if byte == 38 then codes "&amp;"
    else (if byte == 60 then codes "&lt;" else (if byte == 62 then codes "&gt;" else byte ∷ []))

abbrev pub escaped : List ℕ → List ℕ
escaped bytes = flat_map escaped_byte bytes

-- ---- classes, each told by one letter

-- what is ink on the screen: i, or p on a reversed screen
abbrev pub ink_of : Bool → ℕ
ink_of reversed = if reversed then 112 else 105

-- what is its ground: p, or i on a reversed screen
abbrev pub back_of : Bool → ℕ
back_of reversed = if reversed then 105 else 112

-- the attribute that tells classes; none where there are none
abbrev pub class_text : List ℕ → List ℕ
class_text [] = []
class_text (first ∷ rest) =
    codes " class=\"" ++ first ∷ [] ++ flat_map (λ letter. 32 ∷ letter ∷ []) rest ++ 34 ∷ []

-- b for bold, k for blink, and n where outlines are filled in the letters' place, or the ground's where it is reversed
abbrev pub letter_classes : Bool → Kind → List ℕ
letter_classes reversed kind =
    text_where kind.bold (98 ∷ [])
    ++ text_where kind.blink (107 ∷ [])
    ++ (if kind.drawn then 110 ∷ [] else text_where kind.reverse (back_of reversed ∷ []))

-- ---- letters

-- where each character of a run stands: 10 units for each cell before it
abbrev pub places_text : Run → List ℕ
places_text run =
    decimal (10 * run.before)
    ++ flat_map (λ before. 32 ∷ decimal (10 * before)) (range_with_len (run.before + 1) (run.len - 1))

-- the character of a cell
abbrev pub letter_text : Cell → List ℕ
letter_text cell = escaped (printed cell)

-- the letters of a run
abbrev pub span_text : Bool → Row → Run → List ℕ
span_text reversed row run =
    codes "<tspan" ++ class_text (letter_classes reversed run.kind)
    ++ codes " x=\"" ++ places_text run ++ codes "\">"
    ++ flat_map letter_text (cells_of row run) ++ codes "</tspan>"

-- the letters of runs; nothing where there is no run
abbrev pub spans_text : Bool → Row → List Run → List ℕ
spans_text reversed row [] = []
spans_text reversed row (run ∷ runs) =
    codes "<text y=\"15\">" ++ flat_map (span_text reversed row) (run ∷ runs) ++ codes "</text>"

-- the letters of a row
unfoldable pub letters_text : Bool → Row → List ℕ
letters_text reversed row = spans_text reversed row (runs_of row)
