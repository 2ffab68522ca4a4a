-- Packed rows: read again cell by cell, and put behind one another.
use Rattle.std.proofs.Common.{◌≡◌, ℕ, ◌+◌, ◌-◌, ◌*◌, ◌<◌, ◌≤◌, Bool, true, false, List, ◌++◌, length, get_or, set, take, refl, sym, ap, subst, inl, inr, ◌∙◌, arith, length-append}
use Rattle.std.specs.Prelude.{if◌then◌else◌, nat_le}
use Rattle.std.proofs.lemmas.Bool.{cases_eq, cases_lt}
use Rattle.std.proofs.lemmas.Bool.Decides.{nat_tests}
use Rattle.std.proofs.lemmas.List.{length-set, get_or-set_same, get_or-set_other, get_or_default, get_or_append_left, get_or-append-add, get_or-take}
use Rattle.vt_screen.specs.declared.cell.Cell.{Cell}
use Rattle.vt_screen.specs.declared.cell.Row.{Row}
use Rattle.vt_screen.specs.declared.cell.Size.{Size}
use Rattle.vt_screen.specs.declared.screen.packed.PackedScreen.TheInside.{Inside as Fields}
use Rattle.vt_screen.specs.declared.screen.packed.Part.{Part}
use Rattle.vt_screen.specs.Attributes.{Attributes, bit, byte_of, plain}
use Rattle.vt_screen.specs.Table.{table, nth}
use Rattle.vt_screen.specs.Cells.{blank, blank_cells, blank_row, cell_at, row_at, rows_by}
use Rattle.vt_screen.specs.Packed.{ArePacked, AreUsed, IsPart, IsUsed, packed_picture, part_at, unpacked}
use Rattle.vt_screen.specs.Puts.{with_row}
use Rattle.vt_screen.specs.Slots.{Held, rows_of}
use Rattle.vt_screen.proofs.Rows.{blank_whole, row_is}
use Rattle.vt_screen.proofs.SoundRows.{blank_at}
use Rattle.vt_screen.proofs.Tables.{is_table, length-table, nth-table, nth_is, nth_next, set_is, table_ext, table_is}

-- ---- a row that is read again

-- what stands at a column of a part
abbrev told : List Cell → ℕ → ℕ → ℕ → Cell
told cells from len column = if nat_le column len then nth blank cells (from + column) else blank

-- no cell of it yet
pub unpacked_none : (cells : List Cell) (size : Size) (from : ℕ)
    → (let r : Row = record { size = size; cells = blank_cells } in r) ≡ unpacked cells (record { size = size; from = from; len = 0 })
unpacked_none cells size from =
    row_is size blank_cells (table 132 (told cells from 0)) (is_table blank 132 blank_cells (told cells from 0) blank_whole (λ k below.
    let none = sym (nth_next blank blank_cells k) ∙ blank_at (k + 1) in
    grind (arith, nat_tests)))

-- one cell more
pub unpacked_more : (cells : List Cell) (size : Size) (from i : ℕ) (cell : Cell) → i < 132 → from + i < length cells
    → cell ≡ get_or cells (from + i) cell
    → (let r : Row = record { size = size; cells = set (table 132 (told cells from i)) i cell } in r)
    ≡ unpacked cells (record { size = size; from = from; len = i + 1 })
unpacked_more cells size from i cell high within is =
    let so_far = told cells from i in
    row_is size _ (table 132 (told cells from (i + 1))) (set_is blank 132 (table 132 so_far) i cell (length-table 132 so_far) high
    ∙ table_ext 132 _ (told cells from (i + 1)) (λ k low up.
    let was = nth-table blank 132 so_far k low up in
    elim (cases_eq k (i + 1)) [
      | inl e ↦
          let read : nth blank cells (from + k) ≡ cell = ap (nth blank cells) (omega arith) ∙ nth_next blank cells (from + i) ∙ sym (is ∙ get_or_default cells (from + i) cell blank within) in
          grind (arith, nat_tests)
      | inr ne ↦ grind (arith, nat_tests)
    ]))

-- ---- a blank cell

bit_none : (b : Bool) → bit b ≡ 0 → b ≡ false
bit_none true e = absurd (omega (arith, e))
bit_none false e = refl

all_plain : (a b c d : Bool) → a ≡ false → b ≡ false → c ≡ false → d ≡ false
    → ◌≡◌ {A = Attributes} (record { bold = a; underscore = b; blink = c; reverse = d }) plain
all_plain a b c d e0 e1 e2 e3 = cc

cell_is : (glyph : ℕ) (rendition : Attributes) → glyph ≡ 32 → rendition ≡ plain
    → ◌≡◌ {A = Cell} (record { glyph = glyph; rendition = rendition }) blank
cell_is glyph rendition e0 e1 = cc

pub blank_by_number : (cell : Cell) → 256 * byte_of cell.rendition + cell.glyph ≡ 32 → cell ≡ blank
blank_by_number cell is =
    let a = cell.rendition in
    cell_is cell.glyph a (omega (arith, is))
    (all_plain a.bold a.underscore a.blink a.reverse
    (bit_none a.bold (omega (arith, is))) (bit_none a.underscore (omega (arith, is)))
    (bit_none a.blink (omega (arith, is))) (bit_none a.reverse (omega (arith, is))))

-- ---- a row that is packed

-- its cells up to the last that isn't blank, behind others
pub packed_row : (others : List Cell) (row : Row) (len : ℕ) → length row.cells ≡ 132
    → ((column : ℕ) → len < column → cell_at row column ≡ blank)
    → unpacked (others ++ take len row.cells) (record { size = row.size; from = length others; len = len }) ≡ row
packed_row others row len whole tail =
    let cells = others ++ take len row.cells in
    let told_here = told cells (length others) len in
    row_is row.size (table 132 told_here) row.cells (sym (is_table blank 132 row.cells told_here whole (λ k below.
    elim (cases_lt k len) [
      | inl low ↦
          let read : nth blank cells (length others + (k + 1)) ≡ get_or row.cells k blank =
          ap (nth blank cells) (omega arith) ∙ nth_next blank cells (length others + k)
          ∙ get_or-append-add others (take len row.cells) k blank ∙ get_or-take len row.cells k blank low in
          grind (arith, nat_tests)
      | inr past ↦
          let none : get_or row.cells k blank ≡ blank = sym (nth_next blank row.cells k) ∙ tail (k + 1) (omega arith) in
          grind (arith, nat_tests)
    ])))

-- the parts before it stay
pub part_stays : (cells more : List Cell) (part : Part) → IsPart cells part → IsPart (cells ++ more) part
part_stays cells more part is = record { within = omega (arith, is.within, length-append cells more); short = is.short }

pub unpacked_stays : (cells more : List Cell) (part : Part) → IsPart cells part
    → unpacked (cells ++ more) part ≡ unpacked cells part
unpacked_stays cells more part is =
    let f = told (cells ++ more) part.from part.len in
    let g = told cells part.from part.len in
    row_is part.size (table 132 f) (table 132 g) (table_ext 132 f g (λ k low up.
    elim (cases_lt part.len k) [
      | inl past ↦ grind (arith, nat_tests)
      | inr within ↦
          let read : nth blank (cells ++ more) (part.from + k) ≡ nth blank cells (part.from + k) =
          nth_is blank (cells ++ more) (part.from + k) ∙ get_or_append_left cells more blank (part.from + k - 1) (omega (arith, is.within))
          ∙ sym (nth_is blank cells (part.from + k)) in
          grind (arith, nat_tests)
    ]))

-- one line more is counted
pub used_next : (rows : List Row) (lens : List ℕ) (line len : ℕ) → 1 ≤ line → line ≤ 24 → AreUsed rows lens line
    → IsUsed (row_at rows line) len → AreUsed rows (set lens (line - 1) len) (line + 1)
used_next rows lens line len low high used is = record {
  all = length-set lens (line - 1) len ∙ used.all;
  line = λ k klow before. elim (cases_lt k line) [
    | inl less ↦
        let left : nth 0 (set lens (line - 1) len) k ≡ nth 0 lens k =
        nth_is 0 _ k ∙ get_or-set_other lens (line - 1) (k - 1) len 0 (λ e. absurd (omega (arith, e))) ∙ sym (nth_is 0 lens k) in
        subst (IsUsed (row_at rows k)) (sym left) (used.line k klow less)
    | inr past ↦
        let same : line ≡ k = omega arith in
        let put : nth 0 (set lens (line - 1) len) line ≡ len =
        nth_is 0 _ line ∙ get_or-set_same lens (line - 1) len 0 (omega (arith, used.all)) in
        subst (λ n. IsUsed (row_at rows n) (nth 0 (set lens (line - 1) len) n)) same (subst (IsUsed (row_at rows line)) (sym put) is)
  ];
}

-- ---- all rows

-- what one row leaves of those before it
pub record Stay (cells after : List Cell) : Type 0 where
  pub part : (part : Part) → IsPart cells part → IsPart after part
  pub row : (part : Part) → IsPart cells part → unpacked after part ≡ unpacked cells part

part_put : (parts : List Part) (line : ℕ) (part : Part) → 1 ≤ line → line ≤ length parts
    → part_at (set parts (line - 1) part) line ≡ part
part_put parts line part low high =
    nth_is _ (set parts (line - 1) part) line ∙ get_or-set_same parts (line - 1) part _ (omega arith)

part_left : (parts : List Part) (line k : ℕ) (part : Part) → 1 ≤ k → k < line
    → part_at (set parts (line - 1) part) k ≡ part_at parts k
part_left parts line k part low before =
    nth_is _ (set parts (line - 1) part) k ∙ get_or-set_other parts (line - 1) (k - 1) part _ (λ e. absurd (omega (arith, e)))
    ∙ sym (nth_is _ parts k)

pub packed_next : (rows : List Row) (cells after : List Cell) (parts : List Part) (line : ℕ) (part : Part) → 1 ≤ line
    → line ≤ 24 → ArePacked rows cells parts line → Stay cells after → IsPart after part
    → unpacked after part ≡ row_at rows line → length after ≤ length cells + 132
    → ArePacked rows after (set parts (line - 1) part) (line + 1)
packed_next rows cells after parts line part low high packed stay is row few =
    let put = part_put parts line part low (omega (arith, packed.all)) in
    record {
      all = length-set parts (line - 1) part ∙ packed.all;
      few = omega (arith, packed.few);
      part = λ k klow before. elim (cases_lt k line) [
        | inl less ↦ subst (IsPart after) (sym (part_left parts line k part klow less)) (stay.part (part_at parts k) (packed.part k klow less))
        | inr past ↦ let same : line ≡ k = omega arith in subst (λ n. IsPart after (part_at (set parts (line - 1) part) n)) same (subst (IsPart after) (sym put) is)
      ];
      row = λ k klow before. elim (cases_lt k line) [
        | inl less ↦ ap (unpacked after) (part_left parts line k part klow less) ∙ stay.row (part_at parts k) (packed.part k klow less) ∙ packed.row k klow less
        | inr past ↦ let same : line ≡ k = omega arith in subst (λ n. unpacked after (part_at (set parts (line - 1) part) n) ≡ row_at rows n) same (ap (unpacked after) put ∙ row)
      ];
    }

-- rows of which each is the other's
pub same_rows : (rows others : List Row) → length rows ≡ 24 → length others ≡ 24
    → ((line : ℕ) → 1 ≤ line → line ≤ 24 → row_at rows line ≡ row_at others line) → rows ≡ others
same_rows rows others len len' same =
    table_is blank_row 24 rows len ∙ table_ext 24 (row_at rows) (row_at others) same ∙ sym (table_is blank_row 24 others len')

pub packed_all : (held : Held) (cells : List Cell) (parts : List Part) → ArePacked (rows_of held) cells parts 25
    → rows_by (λ line. unpacked cells (part_at parts line)) ≡ rows_of held
packed_all held cells parts packed =
    let rows = rows_of held in
    table_ext 24 (λ line. unpacked cells (part_at parts line)) (row_at rows) (λ k low high. packed.row k low (omega arith))
    ∙ sym (table_is blank_row 24 rows (length-table 24 _))

pub row_read : (s : Fields) (line : ℕ) → 1 ≤ line → line ≤ 24
    → row_at (packed_picture s).rows line ≡ unpacked s.cells.items (part_at s.parts line)
row_read s line low high = nth-table blank_row 24 (λ k. unpacked s.cells.items (part_at s.parts k)) line low high

-- one row more is put back
pub put_next : (old new others : List Row) (line k : ℕ) (row : Row) → new ≡ with_row line row old → line ≤ 24
    → row ≡ row_at others line → 1 ≤ k → k < line + 1
    → ((j : ℕ) → 1 ≤ j → j < line → row_at old j ≡ row_at others j) → row_at new k ≡ row_at others k
put_next old new others line k row is high same low before put =
    let here = ap (λ rows. row_at rows k) is ∙ nth-table blank_row 24 _ k low (omega arith) in
    elim (cases_lt k line) [
      | inl less ↦ let kept = put k low less in grind (arith, nat_tests)
      | inr past ↦ let e : k ≡ line = omega arith in let at = ap (row_at others) e in grind (arith, nat_tests)
    ]
