-- Texts as they stand in JSON, part by part.
use Rattle.std.proofs.Common.{◌≡◌, ℕ, zero, suc, ◌^◌, ◌<◌, ◌≤◌, All, Bool, true, false, List, [], ◌∷◌, ◌++◌, append-nil, append_assoc, ap, sym, refl, ◌∙◌, ◌==◌, ◌&&◌, ◌≢◌, arith, codes, decimal, drop, encode_utf8, get_or, inl, inr, length, nat_lt, not, replicate, slice_index, take}
use Rattle.std.specs.List.{AllPass, flat_map, list_all}
use Rattle.std.proofs.lemmas.Bool.{cases_lt, false≢true}
use Rattle.std.proofs.lemmas.Bool.Decides.{nat_tests}
use Rattle.std.proofs.lemmas.Fmt.{decimal_is_IsNumeral}
use Rattle.std.proofs.lemmas.List.{drop-map, get_or_default, take-map}
use Rattle.std.proofs.lemmas.List.Concat.{flat_map-append}
use Rattle.std.proofs.lemmas.List.Elements.{All-get_or, All-head, All-tail}
use Rattle.std.proofs.lemmas.List.Sums.{AllPass-from_list_all}
use Rattle.std.proofs.lemmas.Str.{encode_ascii, inside_one}
use Rattle.std.proofs.lemmas.Str.Parse.{digit_at}
use Rattle.tape_core.specs.Written.{seconds_form}
use Rattle.vt_parser.specs.Syntax.{escape}
use Rattle.vt_screen.specs.declared.cell.Cell.{Cell}
use Rattle.vt_screen.specs.declared.cell.Row.{Row}
use Rattle.vt_screen.specs.declared.cell.Size.{Size}
use Rattle.vt_screen.specs.declared.cell.Size.TheVariants.{Single, Double, Top, Bottom}
use Rattle.vt_screen.specs.Attributes.{Attributes, plain}
use Rattle.vt_screen.specs.Cells.{is_single}
use Rattle.screen_print.specs.EscapedText.{placed_text, rendition_set_text}
use Rattle.screen_rows.specs.Glyphs.{character, special_graphics}
use Rattle.screen_rows.specs.Texts.{text_where}
use Rattle.screen_rows.specs.Plain.{glyphs_of, is_plain}
use Rattle.screen_rows.specs.RowText.{printed}
use Rattle.screen_rows.specs.declared.runs.Run.{Run}
use Rattle.screen_rows.specs.Runs.{cells_of}
use Rattle.screen_cast.specs.Cast.{event_closing, event_line, event_opening}
use Rattle.screen_cast.specs.Drawn.{cell_text, row_opening, spaces_text}
use Rattle.screen_cast.specs.Events.{resize, size_text}
use Rattle.screen_cast.specs.Json.{json, json_byte}

-- texts in texts
pub joined_twice : {X Y : Type 0} (f : Y → List ℕ) (g : X → List Y) (xs : List X) → flat_map f (flat_map g xs) ≡ flat_map (λ x. flat_map f (g x)) xs
joined_twice f g [] = refl
joined_twice f g (x ∷ xs) = flat_map-append f (g x) (flat_map g xs) ∙ ap (λ t. flat_map f (g x) ++ t) (joined_twice f g xs)

-- ---- what stands as it is

bytes_stand : (text : List ℕ) → All (λ b. json_byte b ≡ b ∷ []) text → json text ≡ text
unfolding json
bytes_stand [] stand = refl
bytes_stand (b ∷ bs) stand =
    ap (λ t. t ++ json bs) (All-head (λ b. json_byte b ≡ b ∷ []) b bs stand)
    ∙ ap (λ t. b ∷ t) (bytes_stand bs (All-tail (λ b. json_byte b ≡ b ∷ []) b bs stand))

digit_stands : (b : ℕ) → (48 ≤ b) × (b ≤ 57) → json_byte b ≡ b ∷ []
digit_stands b digit = grind (arith, nat_tests)

high_stands : (b : ℕ) → 128 ≤ b → json_byte b ≡ b ∷ []
high_stands b high = grind (arith, nat_tests)

number_stands : (n : ℕ) → n < 2 ^ 64 → json (decimal n) ≡ decimal n
number_stands n small =
    let digits = (decimal_is_IsNumeral n small).0.1 in
    bytes_stand (decimal n)
    (λ k d lt. rw (get_or_default (decimal n) k d 0 lt) (digit_stands (get_or (decimal n) k 0) (digit_at (decimal n) k digits lt)))

high_inside : (c k d : ℕ) → 128 ≤ c → k < length (encode_utf8 c) → 128 ≤ get_or (encode_utf8 c) k d
high_inside c k d high below =
    let bytes = encode_utf8 c in
    let is = get_or_default bytes k d 0 below in
    elim (cases_lt (get_or bytes k 0) 128) [
      | inl lt ↦ let same = inside_one c [] bytes k (sym (append-nil bytes)) below lt in absurd (omega (arith, same, lt, high))
      | inr ge ↦ omega (arith, is, ge)
    ]

wide_character : (c : ℕ) → 128 ≤ c → json (encode_utf8 c) ≡ encode_utf8 c
wide_character c high = bytes_stand (encode_utf8 c) (λ k d below. high_stands (get_or (encode_utf8 c) k d) (high_inside c k d high below))

narrow_character : (c : ℕ) → c < 128 → json (encode_utf8 c) ≡ json_byte c
unfolding json
narrow_character c low = ap json (encode_ascii c low) ∙ append-nil (json_byte c)

-- whether a byte is no control, quotation mark or backslash
abbrev stands : ℕ → Bool
stands byte = nat_lt 31 byte && (not (byte == 34) && not (byte == 92))

byte_stands : (byte : ℕ) → stands byte ≡ true → json_byte byte ≡ byte ∷ []
byte_stands byte is = grind (arith, nat_tests)

character_stands : (c : ℕ) → stands c ≡ true → json (encode_utf8 c) ≡ encode_utf8 c
character_stands c is = elim (cases_lt c 128) [
  | inl low ↦ narrow_character c low ∙ byte_stands c is ∙ sym (encode_ascii c low)
  | inr high ↦ wide_character c high
]

special_stands : (glyph : ℕ) → glyph < 32 → stands (slice_index special_graphics glyph) ≡ true
special_stands glyph within =
    All-get_or (λ c. stands c ≡ true) special_graphics glyph 0 within (AllPass-from_list_all stands special_graphics refl)

-- a glyph that is no quotation mark or backslash stands as its character ..
pub glyph_stands : (glyph : ℕ) → glyph ≢ 34 → glyph ≢ 92 → json (encode_utf8 (character glyph)) ≡ encode_utf8 (character glyph)
glyph_stands glyph mark slash = elim (cases_lt glyph 32) [
  | inl special ↦
      let is : character glyph ≡ slice_index special_graphics glyph = grind (arith, nat_tests) in
      rw is (character_stands (slice_index special_graphics glyph) (special_stands glyph special))
  | inr plain ↦
      let is : character glyph ≡ glyph = grind (arith, nat_tests) in
      rw is (character_stands glyph (grind (arith, nat_tests)))
]

-- .. and one of ASCII is one byte
pub ascii_glyph_is : (glyph : ℕ) → 32 ≤ glyph → glyph < 128 → json (encode_utf8 (character glyph)) ≡ json_byte glyph
ascii_glyph_is glyph low high =
    let is : character glyph ≡ glyph = grind (arith, nat_tests) in
    ap (λ c. json (encode_utf8 c)) is ∙ narrow_character glyph high

pub ascii_glyph_stands : (glyph : ℕ) → 32 ≤ glyph → glyph < 128 → encode_utf8 (character glyph) ≡ glyph ∷ []
ascii_glyph_stands glyph low high =
    let is : character glyph ≡ glyph = grind (arith, nat_tests) in
    ap encode_utf8 is ∙ encode_ascii glyph high

is_the_single : (size : Size) → is_single size ≡ true → size ≡ Single
is_the_single Single is = refl
is_the_single Double is = absurd (false≢true is)
is_the_single Top is = absurd (false≢true is)
is_the_single Bottom is = absurd (false≢true is)

-- a plain glyph is one of these
plain_stands : (glyph : ℕ) → is_plain glyph ≡ true → json (encode_utf8 (character glyph)) ≡ glyph ∷ []
plain_stands glyph is =
    let low : 32 ≤ glyph = grind (arith, nat_tests, is) in
    let high : glyph < 128 = grind (arith, nat_tests, is) in
    let mark : glyph ≢ 34 = grind (arith, nat_tests, is) in
    let slash : glyph ≢ 92 = grind (arith, nat_tests, is) in
    glyph_stands glyph mark slash ∙ ascii_glyph_stands glyph low high

plain_cells : (cells : List Cell) → AllPass is_plain (glyphs_of cells) → json (flat_map (cell_text Single) cells) ≡ glyphs_of cells
unfolding json
plain_cells [] stand = refl
plain_cells (cell ∷ cells) stand =
    let here : is_plain cell.glyph ≡ true = All-head (λ g. is_plain g ≡ true) cell.glyph (glyphs_of cells) stand in
    let rest = All-tail (λ g. is_plain g ≡ true) cell.glyph (glyphs_of cells) stand in
    flat_map-append json_byte (cell_text Single cell) (flat_map (cell_text Single) cells)
    ∙ ap (λ t. t ++ json (flat_map (cell_text Single) cells)) (ap json (append-nil (printed cell)) ∙ plain_stands cell.glyph here)
    ∙ ap (λ t. cell.glyph ∷ t) (plain_cells cells rest)

-- so the characters of a run of them are its glyphs
pub plain_run : (row : Row) (run : Run) → is_single row.size ≡ true → list_all is_plain (take run.len (drop run.before (glyphs_of row.cells))) ≡ true
    → json (flat_map (cell_text row.size) (cells_of row run)) ≡ take run.len (drop run.before (glyphs_of row.cells))
plain_run row run single stand =
    let glyph : Cell → ℕ = λ cell. cell.glyph in
    let behind : glyphs_of (cells_of row run) ≡ take run.len (drop run.before (glyphs_of row.cells)) =
    sym (take-map glyph run.len (drop run.before row.cells)) ∙ ap (take run.len) (sym (drop-map glyph run.before row.cells)) in
    ap (λ size. json (flat_map (cell_text size) (cells_of row run))) (is_the_single row.size single)
    ∙ plain_cells (cells_of row run) (AllPass-from_list_all is_plain (glyphs_of (cells_of row run)) (ap (list_all is_plain) behind ∙ stand)) ∙ behind

-- a number stands as it is ..
pub json_number : (n : ℕ) (rest : List ℕ) → n < 2 ^ 64 → json (decimal n ++ rest) ≡ decimal n ++ json rest
unfolding json
json_number n rest small =
    flat_map-append json_byte (decimal n) rest ∙ ap (λ t. t ++ json rest) (number_stands n small)

-- .. and so do spaces
pub json_spaces : (n : ℕ) → json (replicate n 32) ≡ replicate n 32
unfolding json
json_spaces zero = refl
json_spaces (suc n) = ap (λ t. 32 ∷ t) (json_spaces n)

-- ---- parts of what is drawn

-- SGR
abbrev pub rendition_parts : Bool → Bool → Bool → Bool → List ℕ
rendition_parts bold underscore blink reverse =
    ((((codes "\\u001b[0" ++ text_where bold (codes ";1")) ++ text_where underscore (codes ";4")) ++ text_where blink (codes ";5"))
    ++ text_where reverse (codes ";7")) ++ 109 ∷ []

parts_are : (bold underscore blink reverse : Bool) → rendition_parts bold underscore blink reverse
    ≡ json (rendition_set_text (record { bold = bold; underscore = underscore; blink = blink; reverse = reverse }))
unfolding json
parts_are true true true true = refl
parts_are true true true false = refl
parts_are true true false true = refl
parts_are true true false false = refl
parts_are true false true true = refl
parts_are true false true false = refl
parts_are true false false true = refl
parts_are true false false false = refl
parts_are false true true true = refl
parts_are false true true false = refl
parts_are false true false true = refl
parts_are false true false false = refl
parts_are false false true true = refl
parts_are false false true false = refl
parts_are false false false true = refl
parts_are false false false false = refl

pub rendition_is : (a : Attributes) → rendition_parts a.bold a.underscore a.blink a.reverse ≡ json (rendition_set_text a)
rendition_is a = parts_are a.bold a.underscore a.blink a.reverse

-- how a row begins
pub opening_is : (line : ℕ) → line < 2 ^ 64 → (codes "\\u001b[" ++ decimal line) ++ codes ";1H\\u001b[0m\\u001b[2K" ≡ json (row_opening line)
unfolding json
opening_is line small =
    let number = decimal line in
    let place : List ℕ = codes ";1H" in
    let pen = rendition_set_text plain in
    let erasure : List ℕ = escape ∷ codes "[2K" in
    let parts : number ++ place ++ pen ++ erasure ≡ number ++ (place ++ (pen ++ erasure)) =
    append_assoc (number ++ place) pen erasure ∙ append_assoc number place (pen ++ erasure) in
    ap (λ t. codes "\\u001b[" ++ t) (sym (ap json parts ∙ json_number line (place ++ (pen ++ erasure)) small))

-- a place
pub place_is : (line column : ℕ) → line < 2 ^ 64 → column < 2 ^ 64
    → (((codes "\\u001b[" ++ decimal line) ++ 59 ∷ []) ++ decimal column) ++ 72 ∷ [] ≡ json (placed_text line column)
unfolding json
place_is line column small short =
    let between : List ℕ = codes ";" in
    let closes : List ℕ = codes "H" in
    let parts : decimal line ++ between ++ decimal column ++ closes ≡ decimal line ++ (between ++ (decimal column ++ closes)) =
    append_assoc (decimal line ++ between) (decimal column) closes ∙ append_assoc (decimal line) between (decimal column ++ closes) in
    ap (λ t. codes "\\u001b[" ++ t)
    (parts ∙ sym (ap json parts ∙ json_number line (between ++ (decimal column ++ closes)) small ∙ ap (λ t. decimal line ++ (between ++ t)) (json_number column closes short)))

-- the ground of a reversed screen
pub spaces_are : (count : ℕ) → codes "\\u001b[0;7m" ++ replicate count 32 ≡ json (spaces_text count)
unfolding json
spaces_are count = ap (λ t. codes "\\u001b[0;7m" ++ t) (sym (json_spaces count))

-- five texts, one after another
five : (a b c d e : List ℕ) → a ++ (b ++ (c ++ (d ++ e))) ≡ a ++ b ++ c ++ d ++ e
five a b c d e = sym (append_assoc (a ++ b ++ c) d e ∙ append_assoc (a ++ b) c (d ++ e) ∙ append_assoc a b (c ++ (d ++ e)))

size_stands : (wide : Bool) → json (size_text wide) ≡ size_text wide
unfolding json size_text
size_stands true = refl
size_stands false = refl

-- the event that tells a size
pub size_is : (due : ℕ) (wide : Bool)
    → codes "[" ++ (seconds_form due ++ (codes ", \"r\", \"" ++ (size_text wide ++ codes "\"]\n"))) ≡ event_line (resize due (size_text wide))
unfolding event_opening event_closing
size_is due wide =
    let before : List ℕ = codes ", \"" in
    let code : List ℕ = codes "r" in
    let behind : List ℕ = codes "\", \"" in
    let closes : List ℕ = codes "\"]\n" in
    ap (λ t. codes "[" ++ t)
    (five (seconds_form due) before (code ++ behind) (size_text wide) closes
    ∙ ap (λ t. t ++ size_text wide ++ closes) (sym (append_assoc (seconds_form due ++ before) code behind))
    ∙ ap (λ t. seconds_form due ++ before ++ code ++ behind ++ t ++ closes) (sym (size_stands wide)))

-- ---- what is laid out

-- a text behind another one
pub text_behind : (start text more now : List ℕ) → now ≡ start ++ text → now ++ more ≡ start ++ (text ++ more)
text_behind start text more now is = ap (λ t. t ++ more) is ∙ append_assoc start text more

space_stands : (holds : Bool) → json (text_where holds (32 ∷ [])) ≡ text_where holds (32 ∷ [])
unfolding json
space_stands true = refl
space_stands false = refl

-- a cell, and a space behind it on the double sizes
pub cell_is : (size : Size) (cell : Cell) → json (cell_text size cell) ≡ json (printed cell) ++ text_where (not (is_single size)) (32 ∷ [])
unfolding json
cell_is size cell =
    flat_map-append json_byte (printed cell) (text_where (not (is_single size)) (32 ∷ []))
    ∙ ap (λ t. json (printed cell) ++ t) (space_stands (not (is_single size)))

-- cells, and one more
pub cells_more : (size : Size) (cells : List Cell) (cell : Cell) → json (flat_map (cell_text size) (cells ++ cell ∷ [])) ≡ json (flat_map (cell_text size) cells) ++ json (cell_text size cell)
unfolding json
cells_more size cells cell =
    ap json (flat_map-append (cell_text size) cells (cell ∷ []) ∙ ap (λ t. flat_map (cell_text size) cells ++ t) (append-nil (cell_text size cell)))
    ∙ flat_map-append json_byte (flat_map (cell_text size) cells) (cell_text size cell)

-- no cell
pub no_cells : (start : List ℕ) → start ≡ start ++ json []
unfolding json
no_cells start = sym (append-nil start)
