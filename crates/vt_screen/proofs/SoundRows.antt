-- Rows stay sound.
use Rattle.std.proofs.Common.{◌≡◌, ℕ, ◌+◌, ◌-◌, ◌<◌, ◌≤◌, Bool, true, false, List, replicate, refl, sym, ap, inl, inr, ◌∙◌, subst, arith}
use Rattle.std.specs.Prelude.{if◌then◌else◌, ◌==◌, ◌&&◌, not, nat_le, nat_lt}
use Rattle.std.proofs.lemmas.Bool.{cases_lt}
use Rattle.std.proofs.lemmas.Bool.Decides.{nat_tests}
use Rattle.std.proofs.lemmas.List.{get_or-replicate, get_or_past}
use Rattle.vt_screen.specs.declared.cell.Cell.{Cell}
use Rattle.vt_screen.specs.declared.cell.Size.{Size}
use Rattle.vt_screen.specs.declared.cell.Size.TheVariants.{Single, Double, Top, Bottom}
use Rattle.vt_screen.specs.declared.cell.Row.{Row}
use Rattle.vt_screen.specs.Table.{table, nth}
use Rattle.vt_screen.specs.CellEdits.{taken_out, moved_right}
use Rattle.vt_screen.specs.Cells.{blank, blank_cells, blank_row, cell_at, row_at, row_by, rows_by, is_single}
use Rattle.vt_screen.specs.Erasures.{in_line_part, part_erased}
use Rattle.vt_screen.specs.Lines.{filled_to, resized}
use Rattle.vt_screen.specs.Picture.{Picture, SoundRow, columns, margin_of, right_margin}
use Rattle.vt_screen.specs.Puts.{with_cell, with_row}
use Rattle.vt_screen.proofs.Rows.{blank_whole, row_is}
use Rattle.vt_screen.proofs.Tables.{length-table, nth-table, nth_is, nth_keeps, table_ext, table_is}

pub margin_low : (wide : Bool) (size : Size) → 40 ≤ margin_of wide size
margin_low true Single = omega arith
margin_low true Double = omega arith
margin_low true Top = omega arith
margin_low true Bottom = omega arith
margin_low false Single = omega arith
margin_low false Double = omega arith
margin_low false Top = omega arith
margin_low false Bottom = omega arith

pub margin_high : (wide : Bool) (size : Size) → margin_of wide size ≤ columns wide
margin_high true Single = omega arith
margin_high true Double = omega arith
margin_high true Top = omega arith
margin_high true Bottom = omega arith
margin_high false Single = omega arith
margin_high false Double = omega arith
margin_high false Top = omega arith
margin_high false Bottom = omega arith

pub columns_high : (wide : Bool) → columns wide ≤ 132
columns_high true = omega arith
columns_high false = omega arith

pub right_margin_low : (p : Picture) (line : ℕ) → 40 ≤ right_margin p line
right_margin_low p line = margin_low p.wide (row_at p.rows line).size

pub right_margin_high : (p : Picture) (line : ℕ) → right_margin p line ≤ 132
right_margin_high p line = omega (arith, margin_high p.wide (row_at p.rows line).size, columns_high p.wide)

-- all double sizes have one margin
pub double_margin : (wide : Bool) (size other : Size) → is_single size ≡ false → is_single other ≡ false → margin_of wide size ≡ margin_of wide other
double_margin wide size other a b = ap (λ (s : Bool). if s then columns wide else (if wide then 66 else 40)) (a ∙ sym b)

pub single_margin : (wide : Bool) (size : Size) → is_single size ≡ true → margin_of wide size ≡ columns wide
single_margin wide size a = ap (λ (s : Bool). if s then columns wide else (if wide then 66 else 40)) a

pub blank_at : (column : ℕ) → cell_at blank_row column ≡ blank
unfolding blank_cells
blank_at column = nth_is blank (replicate 132 blank) column ∙ elim (cases_lt (column - 1) 132) [
  | inl within ↦ get_or-replicate 132 (column - 1) blank blank within
  | inr past ↦ get_or_past (replicate 132 blank) (column - 1) blank past
]

-- a single row of blank cells
pub blank_either : (b : Bool) (e : Cell) → e ≡ blank → (if b then blank else e) ≡ blank
blank_either true e is = refl
blank_either false e is = is

pub all_blank : (f : ℕ → Cell) → ((k : ℕ) → 1 ≤ k → k ≤ 132 → f k ≡ blank) → row_by Single f ≡ blank_row
all_blank f each =
    row_is Single (table 132 f) blank_cells (table_ext 132 f (nth blank blank_cells) (λ k low high. each k low high ∙ sym (blank_at k)) ∙ sym (table_is blank 132 blank_cells blank_whole))

-- a row told by column is sound where its cells are
pub sound_by : (wide : Bool) (size : Size) (f : ℕ → Cell) → ((k : ℕ) → margin_of wide size < k → f k ≡ blank)
    → ((k : ℕ) → (f k).glyph ≤ 126) → SoundRow wide (row_by size f)
sound_by wide size f right glyphs = record {
  cells = length-table 132 f;
  blank_right = λ k above. elim (cases_lt 132 k) [
    | inl past ↦ nth_is blank (table 132 f) k ∙ get_or_past (table 132 f) (k - 1) blank (omega (arith, length-table 132 f))
    | inr within ↦ nth-table blank 132 f k (omega arith) within ∙ right k above
  ];
  glyphs = nth_keeps (λ e. e.glyph ≤ 126) blank 132 f (omega arith) (λ k low high. glyphs k);
}

pub sound_blank : (wide : Bool) → SoundRow wide blank_row
sound_blank wide = record {
  cells = blank_whole;
  blank_right = λ k above. blank_at k;
  glyphs = λ k. subst (λ (e : Cell). e.glyph ≤ 126) (sym (blank_at k)) (omega arith);
}

-- one of two cells
either : (P : Cell → Type 0) (b : Bool) (x y : Cell) → P x → P y → P (if b then x else y)
either P true x y px py = px
either P false x y px py = py

module _ (wide : Bool) (row : Row) (sound : SoundRow wide row) where
  pub sound_with_cell : (column : ℕ) (cell : Cell) → column ≤ margin_of wide row.size → cell.glyph ≤ 126 → SoundRow wide (with_cell column cell row)
  sound_with_cell column cell within glyph =
      sound_by wide row.size _
      (λ k above. let same = sound.blank_right k above in grind (arith, nat_tests))
      (λ k. either (λ e. e.glyph ≤ 126) (k == column) cell (cell_at row k) glyph (sound.glyphs k))

  pub sound_erased : (part cursor : ℕ) → SoundRow wide (part_erased part cursor row)
  sound_erased part cursor =
      sound_by wide row.size _
      (λ k above. either (λ e. e ≡ blank) (in_line_part part cursor k) blank (cell_at row k) refl (sound.blank_right k above))
      (λ k. either (λ e. e.glyph ≤ 126) (in_line_part part cursor k) blank (cell_at row k) (omega arith) (sound.glyphs k))

  pub sound_filled : (cell : Cell) → cell.glyph ≤ 126 → SoundRow wide (filled_to cell (columns wide) row)
  sound_filled cell glyph =
      sound_by wide Single _
      (λ k above.
      let right = sound.blank_right k (omega (arith, margin_high wide row.size)) in
      grind (arith, nat_tests))
      (λ k. either (λ e. e.glyph ≤ 126) (nat_le k (columns wide)) cell (cell_at row k) glyph (sound.glyphs k))

  -- filled with blank cells it is a blank row
  pub cleared : filled_to blank (columns wide) row ≡ blank_row
  cleared = all_blank _ (λ k low high. elim (cases_lt (columns wide) k) [
    | inl past ↦ blank_either (nat_le k (columns wide)) (cell_at row k) (sound.blank_right k (omega (arith, margin_high wide row.size)))
    | inr within ↦ grind (arith, nat_tests)
  ])

  pub sound_taken_out : (n from : ℕ) → SoundRow wide (taken_out n from (margin_of wide row.size) row)
  sound_taken_out n from =
      sound_by wide row.size _
      (λ k above. let same = sound.blank_right k above in grind (arith, nat_tests))
      (λ k. either (λ e. e.glyph ≤ 126) (nat_le from k && nat_le k (margin_of wide row.size)) _ (cell_at row k)
      (either (λ e. e.glyph ≤ 126) (nat_le (k + n) (margin_of wide row.size)) (cell_at row (k + n)) blank (sound.glyphs (k + n)) (omega arith)) (sound.glyphs k))

  pub sound_moved_right : (from : ℕ) → SoundRow wide (moved_right from (margin_of wide row.size) row)
  sound_moved_right from =
      sound_by wide row.size _
      (λ k above. let same = sound.blank_right k above in grind (arith, nat_tests))
      (λ k. either (λ e. e.glyph ≤ 126) (nat_lt from k && nat_le k (margin_of wide row.size)) (cell_at row (k - 1)) (cell_at row k) (sound.glyphs (k - 1)) (sound.glyphs k))

  resized_right : (size : Size) (k : ℕ) (was is : Bool) → is_single row.size ≡ was → is_single size ≡ is
      → margin_of wide size < k
      → (if was && not is && nat_lt (margin_of wide size) k then blank else cell_at row k) ≡ blank
  resized_right size k true true a b above = sound.blank_right k (omega (arith, single_margin wide row.size a, single_margin wide size b))
  resized_right size k true false a b above = grind (arith, nat_tests)
  resized_right size k false true a b above = sound.blank_right k (omega (arith, margin_high wide row.size, single_margin wide size b))
  resized_right size k false false a b above = sound.blank_right k (omega (arith, double_margin wide row.size size a b))

  pub sound_resized : (size : Size) → SoundRow wide (resized wide size row)
  sound_resized size =
      sound_by wide size _
      (λ k above. resized_right size k (is_single row.size) (is_single size) refl refl above)
      (λ k. either (λ e. e.glyph ≤ 126) (is_single row.size && not (is_single size) && nat_lt (margin_of wide size) k) blank (cell_at row k) (omega arith) (sound.glyphs k))

-- rows told by line
pub sound_rows_by : (wide : Bool) (f : ℕ → Row) → ((line : ℕ) → 1 ≤ line → line ≤ 24 → SoundRow wide (f line))
    → (line : ℕ) → SoundRow wide (row_at (rows_by f) line)
sound_rows_by wide f each = nth_keeps (SoundRow wide) blank_row 24 f (sound_blank wide) each

pub either_row : (P : Row → Type 0) (b : Bool) (x y : Row) → P x → P y → P (if b then x else y)
either_row P true x y px py = px
either_row P false x y px py = py

pub sound_with_row : (wide : Bool) (at : ℕ) (row : Row) (rows : List Row) → SoundRow wide row
    → ((line : ℕ) → SoundRow wide (row_at rows line)) → (line : ℕ)
    → SoundRow wide (row_at (with_row at row rows) line)
sound_with_row wide at row rows sound each =
    sound_rows_by wide _ (λ line low high. either_row (SoundRow wide) (line == at) row (row_at rows line) sound (each line))
