-- The first line, read as a header of version 2 that tells a size.
use Rattle.std.proofs.Common.{◌≡◌, ℕ, suc, ◌-◌, ◌≤◌, false, List, [], ◌∷◌, ◌++◌, codes, length, Some, None, if◌then◌else◌, refl, ap, ap₂, sym, ◌∙◌, arith, append_assoc}
use Rattle.std.specs.Fmt.{decimal}
use Rattle.std.proofs.lemmas.Bool.{le-leb}
use Rattle.std.proofs.lemmas.List.Elements.{All-append}
use Rattle.json_bytes.specs.Values.{Members, as_part, json_of, member, members, no_members, number, object, value, whole}
use Rattle.output_cast.specs.Cast.{header_line}
use Rattle.tape_core.specs.Text.{lines_of}
use Rattle.tape_core.proofs.ReadBackLemmas.{decimal_digits, digits_unbroken, next_line}
use Rattle.tape_core.proofs.WordLemmas.{decimal_read}
use Rattle.tape_import.specs.Asciicast as read
use Rattle.tape_import.specs.Asciicast.{is_blank_line, past_header, side_of, told_date, told_size, told_term, version_of}
use Rattle.tape_import.specs.Facts.{side, size_of}
use Rattle.tape_import.specs.declared.version.Version.TheVariants as version
use Rattle.cast_laws.specs.Whole.{IsReadSize}
use Rattle.cast_laws.proofs.EventLemmas.{no_feed}
use Rattle.cast_laws.proofs.NumberLemmas.{BeginsWithDigit, Whole, before_brace, before_comma, decimal_whole, not_none, of_digits, whole_begins}
use Rattle.cast_laws.proofs.TextLemmas.{IsUnbroken, NoFeed}
use Rattle.cast_laws.proofs.ValueLemmas.{ReadsNamed, colon_then, last_member, named_by, number_value, object_opened, object_value, one_member}

-- the line without its LF
abbrev pub header_text : ℕ → ℕ → List ℕ
header_text columns lines =
    codes "{\"version\": 2, \"width\": " ++ decimal columns ++ codes ", \"height\": " ++ decimal lines ++ 125 ∷ []

-- ---- it is JSON

-- what stands from the columns on, and from the lines on
abbrev from_lines : List ℕ → List ℕ
from_lines lines = lines ++ 125 ∷ []

abbrev from_height : List ℕ → List ℕ
from_height lines = codes "\"height\": " ++ from_lines lines

abbrev from_columns : List ℕ → List ℕ → List ℕ
from_columns columns lines = columns ++ 44 ∷ 32 ∷ from_height lines

abbrev from_width : List ℕ → List ℕ → List ℕ
from_width columns lines = codes "\"width\": " ++ from_columns columns lines

abbrev from_version : List ℕ → List ℕ → List ℕ
from_version columns lines = codes "\"version\": 2, " ++ from_width columns lines

header_spelled : (columns lines : ℕ) → header_text columns lines ≡ 123 ∷ from_version (decimal columns) (decimal lines)
header_spelled columns lines =
    let opening = codes "{\"version\": 2, \"width\": " in
    let height = codes ", \"height\": " in
    append_assoc (opening ++ decimal columns ++ height) (decimal lines) (125 ∷ [])
    ∙ append_assoc (opening ++ decimal columns) height (from_lines (decimal lines))
    ∙ append_assoc opening (decimal columns) (height ++ from_lines (decimal lines))

height_read : (lines : List ℕ) → Whole lines → ReadsNamed (value 63) (from_height lines) (codes "height") (number (of_digits lines [])) (125 ∷ [])
height_read lines w =
    let digit : BeginsWithDigit (from_lines lines) = whole_begins lines (125 ∷ []) w in
    named_by (value 63) (from_height lines) (codes "height") (58 ∷ 32 ∷ from_lines lines) (from_lines lines) (125 ∷ []) (number (of_digits lines []))
    refl (colon_then (from_lines lines) digit) (number_value 63 (from_lines lines) (of_digits lines []) (125 ∷ []) digit.quote (before_brace lines w))

width_read : (columns lines : List ℕ) → Whole columns
    → ReadsNamed (value 63) (from_width columns lines) (codes "width") (number (of_digits columns [])) (44 ∷ 32 ∷ from_height lines)
width_read columns lines w =
    let digit : BeginsWithDigit (from_columns columns lines) = whole_begins columns (44 ∷ 32 ∷ from_height lines) w in
    named_by (value 63) (from_width columns lines) (codes "width") (58 ∷ 32 ∷ from_columns columns lines) (from_columns columns lines) (44 ∷ 32 ∷ from_height lines)
    (number (of_digits columns [])) refl (colon_then (from_columns columns lines) digit)
    (number_value 63 (from_columns columns lines) (of_digits columns []) (44 ∷ 32 ∷ from_height lines) digit.quote (before_comma columns (from_height lines) w))

version_read : (columns lines : List ℕ)
    → ReadsNamed (value 63) (from_version columns lines) (codes "version") (number (of_digits (50 ∷ []) [])) (44 ∷ 32 ∷ from_width columns lines)
version_read columns lines =
    let rest = 44 ∷ 32 ∷ from_width columns lines in
    named_by (value 63) (from_version columns lines) (codes "version") (58 ∷ 32 ∷ 50 ∷ rest) (50 ∷ rest) rest (number (of_digits (50 ∷ []) []))
    refl refl (number_value 63 (50 ∷ rest) (of_digits (50 ∷ []) []) rest refl refl)

abbrev pub size_members : List ℕ → List ℕ → Members
size_members columns lines =
    member (codes "version") (number (of_digits (50 ∷ []) []))
    (member (codes "width") (number (of_digits columns [])) (member (codes "height") (number (of_digits lines [])) no_members))

members_read : (columns lines : List ℕ) (most : ℕ) → Whole columns → Whole lines
    → members (value 63) (suc (suc (suc most))) (from_version columns lines) ≡ Some (size_members columns lines, [])
members_read columns lines most wide high =
    one_member (value 63) (suc (suc most)) (from_version columns lines) (codes "version") (44 ∷ 32 ∷ from_width columns lines) (from_width columns lines)
    (number (of_digits (50 ∷ []) [])) (version_read columns lines) refl refl
    ∙ ap (as_part (member (codes "version") (number (of_digits (50 ∷ []) []))))
    (one_member (value 63) (suc most) (from_width columns lines) (codes "width") (44 ∷ 32 ∷ from_height lines) (from_height lines)
    (number (of_digits columns [])) (width_read columns lines wide) refl refl
    ∙ ap (as_part (member (codes "width") (number (of_digits columns []))))
    (last_member (value 63) most (from_height lines) (codes "height") (125 ∷ []) [] (number (of_digits lines [])) (height_read lines high) refl))

object_read : (columns lines : List ℕ) → Whole columns → Whole lines → json_of (123 ∷ from_version columns lines) ≡ Some (object (size_members columns lines))
object_read columns lines wide high =
    let text = from_version columns lines in
    let count : length text ≡ suc (suc (suc (length text - 3))) = omega arith in
    ap whole (object_value 63 text)
    ∙ ap (λ read. whole (as_part object read))
    (object_opened (value 63) (codes "version\": 2, " ++ from_width columns lines) ∙ ap (λ n. members (value 63) n text) count
    ∙ members_read columns lines (length text - 3) wide high)

pub header_json : (columns lines : ℕ) → IsReadSize columns lines → json_of (header_text columns lines) ≡ Some (object (size_members (decimal columns) (decimal lines)))
header_json columns lines size =
    ap json_of (header_spelled columns lines)
    ∙ object_read (decimal columns) (decimal lines) (decimal_whole columns (omega (arith, size.few_columns))) (decimal_whole lines (omega (arith, size.few_lines)))

-- ---- what it tells

pub is_version_two : (columns lines : List ℕ) → version_of (Some (object (size_members columns lines))) ≡ Some version.Two
is_version_two columns lines = refl

pub no_term : (columns lines : List ℕ) → told_term version.Two (Some (object (size_members columns lines))) ≡ None
no_term columns lines = refl

pub no_date : (columns lines : List ℕ) → told_date (Some (object (size_members columns lines))) ≡ None
no_date columns lines = refl

side_is : (n : ℕ) → 1 ≤ n → n ≤ 9999 → side (Some n) ≡ Some n
side_is n some few = rw (le-leb 1 n some, le-leb n 9999 few) refl

side_read : (n : ℕ) → 1 ≤ n → n ≤ 9999 → side_of (Some (number (of_digits (decimal n) []))) ≡ Some n
side_read n some few = ap side (decimal_read n (omega arith)) ∙ side_is n some few

pub size_told : (columns lines : ℕ) → IsReadSize columns lines
    → told_size version.Two (Some (object (size_members (decimal columns) (decimal lines)))) ≡ Some (record { columns = columns; lines = lines })
size_told columns lines size =
    ap₂ size_of (side_read columns size.some_columns size.few_columns) (side_read lines size.some_lines size.few_lines)

-- ---- it is the first line

header_unbroken : (columns lines : ℕ) → IsReadSize columns lines → IsUnbroken (header_text columns lines)
header_unbroken columns lines size =
    let opening = codes "{\"version\": 2, \"width\": " in
    let height = codes ", \"height\": " in
    let wide = digits_unbroken (decimal columns) (decimal_digits columns (omega (arith, size.few_columns))) in
    let high = digits_unbroken (decimal lines) (decimal_digits lines (omega (arith, size.few_lines))) in
    All-append NoFeed (opening ++ decimal columns ++ height ++ decimal lines) (125 ∷ [])
    (All-append NoFeed (opening ++ decimal columns ++ height) (decimal lines)
    (All-append NoFeed (opening ++ decimal columns) height (All-append NoFeed opening (decimal columns) (no_feed opening refl) wide) (no_feed height refl)) high)
    (no_feed (125 ∷ []) refl)

header_ended : (columns lines : ℕ) (rest : List ℕ) → header_line columns lines ++ rest ≡ header_text columns lines ++ 10 ∷ rest
unfolding header_line
header_ended columns lines rest =
    let front = codes "{\"version\": 2, \"width\": " ++ decimal columns ++ codes ", \"height\": " ++ decimal lines in
    append_assoc front (125 ∷ 10 ∷ []) rest ∙ sym (append_assoc front (125 ∷ []) (10 ∷ rest))

pub first_line : (columns lines : ℕ) (rest : List ℕ) → IsReadSize columns lines
    → lines_of (header_line columns lines ++ rest) ≡ header_text columns lines ∷ lines_of rest
first_line columns lines rest size =
    ap lines_of (header_ended columns lines rest) ∙ next_line (header_text columns lines) rest (header_unbroken columns lines size)

header_some : (columns lines : ℕ) → is_blank_line (header_text columns lines) ≡ false
header_some columns lines = ap is_blank_line (header_spelled columns lines) ∙ not_none (length (123 ∷ from_version (decimal columns) (decimal lines))) (omega arith)

-- so it is the header, and the events stand behind it
pub header_first : (columns lines : ℕ) (more : List (List ℕ)) → read.header_line (header_text columns lines ∷ more) ≡ header_text columns lines
header_first columns lines more =
    ap (λ b. if b then read.header_line more else header_text columns lines) (header_some columns lines)

pub header_past : (columns lines : ℕ) (more : List (List ℕ)) → past_header (header_text columns lines ∷ more) ≡ more
header_past columns lines more =
    ap (λ b. if b then past_header more else more) (header_some columns lines)
