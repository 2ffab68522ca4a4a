-- Characters as they stand in a string.
use Rattle.std.proofs.Common.{◌≡◌, ℕ, ◌<◌, ◌≤◌, true, List, [], ◌∷◌, ◌++◌, All, length, drop, take, get_or, encode_utf8, refl, ap, sym, ◌∙◌, arith, append-nil, inl, inr}
use Rattle.std.specs.List.{AllPass, flat_map, list_all}
use Rattle.std.proofs.lemmas.Bool.{cases_lt}
use Rattle.std.proofs.lemmas.Bool.Decides.{nat_tests}
use Rattle.std.proofs.lemmas.List.{drop-map, get_or_default, take-map}
use Rattle.std.proofs.lemmas.List.Elements.{All-head, All-tail}
use Rattle.std.proofs.lemmas.List.Concat.{flat_map-append}
use Rattle.std.proofs.lemmas.List.Sums.{AllPass-from_list_all}
use Rattle.std.proofs.lemmas.Str.{encode_ascii, inside_one}
use Rattle.vt_screen.specs.declared.cell.Cell.{Cell}
use Rattle.vt_screen.specs.declared.cell.Row.{Row}
use Rattle.screen_rows.specs.Glyphs.{character}
use Rattle.screen_rows.specs.RowText.{printed}
use Rattle.screen_rows.specs.declared.runs.Run.{Run}
use Rattle.screen_rows.specs.Runs.{cells_of}
use Rattle.screen_page.specs.EntryText.{string_byte}
use Rattle.screen_rows.specs.Plain.{glyphs_of, is_plain}

-- ---- strings

-- a byte from 128 on stands for itself
high_byte : (byte : ℕ) → 128 ≤ byte → string_byte byte ≡ byte ∷ []
high_byte byte high = grind (arith, nat_tests)

pub high_bytes : (bytes : List ℕ) → All (λ b. 128 ≤ b) bytes → flat_map string_byte bytes ≡ bytes
high_bytes [] high = refl
high_bytes (byte ∷ bytes) high =
    let here : 128 ≤ byte = All-head (λ b. 128 ≤ b) byte bytes high in
    ap (λ l. l ++ flat_map string_byte bytes) (high_byte byte here)
    ∙ ap (λ l. byte ∷ l) (high_bytes bytes (All-tail (λ b. 128 ≤ b) byte bytes high))

high_inside : (c k d : ℕ) → 128 ≤ c → k < length (encode_utf8 c) → 128 ≤ get_or (encode_utf8 c) k d
high_inside c k d high below =
    let bytes = encode_utf8 c in
    let is = get_or_default bytes k d 0 below in
    elim (cases_lt (get_or bytes k 0) 128) [
      | inl lt ↦ let same = inside_one c [] bytes k (sym (append-nil bytes)) below lt in absurd (omega (arith, same, lt, high))
      | inr ge ↦ omega (arith, is, ge)
    ]

-- a character that isn't of ASCII stands for itself
pub wide_character : (c : ℕ) → 128 ≤ c → flat_map string_byte (encode_utf8 c) ≡ encode_utf8 c
wide_character c high = high_bytes (encode_utf8 c) (λ k d below. high_inside c k d high below)

-- and one of ASCII is one byte
pub narrow_character : (c : ℕ) → c < 128 → flat_map string_byte (encode_utf8 c) ≡ string_byte c
narrow_character c low = ap (flat_map string_byte) (encode_ascii c low) ∙ append-nil (string_byte c)

-- ---- plain glyphs

-- a plain glyph is a character of ASCII that stands for itself
plain_cell : (cell : Cell) → is_plain cell.glyph ≡ true → flat_map string_byte (printed cell) ≡ cell.glyph ∷ []
plain_cell cell plain =
    let low : 32 ≤ cell.glyph = grind (arith, nat_tests, plain) in
    let high : cell.glyph < 128 = grind (arith, nat_tests, plain) in
    let is : character cell.glyph ≡ cell.glyph = grind (arith, nat_tests, low) in
    let itself : string_byte cell.glyph ≡ cell.glyph ∷ [] = grind (arith, nat_tests, plain) in
    ap (λ c. flat_map string_byte (encode_utf8 c)) is ∙ narrow_character cell.glyph high ∙ itself

plain_cells : (cells : List Cell) → AllPass is_plain (glyphs_of cells)
    → flat_map string_byte (flat_map printed cells) ≡ glyphs_of cells
plain_cells [] plain = refl
plain_cells (cell ∷ cells) plain =
    let here : is_plain cell.glyph ≡ true = All-head (λ g. is_plain g ≡ true) cell.glyph (glyphs_of cells) plain in
    let rest = All-tail (λ g. is_plain g ≡ true) cell.glyph (glyphs_of cells) plain in
    flat_map-append string_byte (printed cell) (flat_map printed cells)
    ∙ ap (λ l. l ++ flat_map string_byte (flat_map printed cells)) (plain_cell cell here)
    ∙ ap (λ l. cell.glyph ∷ l) (plain_cells cells rest)

-- so the characters of a run of them are its glyphs
pub plain_run : (row : Row) (run : Run) → list_all is_plain (take run.len (drop run.before (glyphs_of row.cells))) ≡ true
    → flat_map string_byte (flat_map printed (cells_of row run)) ≡ take run.len (drop run.before (glyphs_of row.cells))
plain_run row run plain =
    let glyph : Cell → ℕ = λ cell. cell.glyph in
    let behind : glyphs_of (cells_of row run) ≡ take run.len (drop run.before (glyphs_of row.cells)) =
    sym (take-map glyph run.len (drop run.before row.cells)) ∙ ap (take run.len) (sym (drop-map glyph run.before row.cells)) in
    plain_cells (cells_of row run) (AllPass-from_list_all is_plain (glyphs_of (cells_of row run)) (ap (list_all is_plain) behind ∙ plain)) ∙ behind
