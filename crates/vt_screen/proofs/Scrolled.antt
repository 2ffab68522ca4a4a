-- Lines that move: what names that turn and lines that are filled come to.
use Rattle.std.proofs.Common.{◌≡◌, ℕ, ◌+◌, ◌-◌, ◌≤◌, Bool, true, List, min, set, sym, ap, ap₂, ◌∙◌, arith}
use Rattle.std.specs.Prelude.{if◌then◌else◌, ◌&&◌, nat_le, nat_lt}
use Rattle.std.proofs.lemmas.Bool.Decides.{nat_tests}
use Rattle.vt_screen.specs.Table.{table}
use Rattle.vt_screen.specs.declared.cell.Row.{Row}
use Rattle.vt_screen.specs.Cells.{blank, blank_row, row_at, rows_by}
use Rattle.vt_screen.specs.declared.cell.Cell.{Cell}
use Rattle.vt_screen.specs.Lines.{filled_to}
use Rattle.vt_screen.specs.Scrolls.{is_in_region}
use Rattle.vt_screen.specs.Moves.{moved_to_left}
use Rattle.vt_screen.specs.Picture.{Picture, Sound, columns, with_rows}
use Rattle.vt_screen.specs.Slots.{slot_at, line_below, line_above}
use Rattle.vt_screen.specs.Written.{lines_changed, lines_taken}
use Rattle.vt_screen.proofs.SoundRows.{all_blank, cleared}
use Rattle.vt_screen.proofs.Tables.{nth-table, table_ext}

module _ (p : Picture) (sound : Sound p) (source : ℕ → ℕ) (was : List Row) (turned : was ≡ lines_taken source p.rows) where
  -- each line is another one, and blank where some come free
  pub scrolled : (f : ℕ → Row) (first last : ℕ) (now : List Row) → now ≡ lines_changed (filled_to blank (columns p.wide)) first last was
      → ((k : ℕ) → (if nat_le first k && nat_lt k last then blank_row else row_at p.rows (source k)) ≡ f k) → now ≡ rows_by f
  scrolled f first last now filled each =
      filled ∙ ap (lines_changed (filled_to blank (columns p.wide)) first last) turned
      ∙ table_ext 24 _ _ (λ k low high.
      let test = nat_le first k && nat_lt k last in
      let there = nth-table blank_row 24 (λ j. row_at p.rows (source j)) k low high in
      ap (λ (r : Row). if test then filled_to blank (columns p.wide) r else r) there
      ∙ ap (λ (r : Row). if test then r else row_at p.rows (source k)) (cleared p.wide (row_at p.rows (source k)) (sound.row (source k)))
      ∙ each k)

  -- the slot of the line that leaves
  pub slot_cleared : (line left : ℕ) (order names : List ℕ) (slots held now : List Row) (new : Row) → 1 ≤ line
      → line ≤ 24 → source line ≡ left → names ≡ table 24 (λ k. slot_at order (source k)) → held ≡ slots
      → new ≡ filled_to blank (columns p.wide) (row_at was line) → now ≡ set held (slot_at names line) new → now ≡ set slots (slot_at order left) blank_row
  slot_cleared line left order names slots held now new low high leaves is_names is_held is_new written =
      let row : row_at was line ≡ row_at p.rows (source line) = ap (λ (rs : List Row). row_at rs line) turned ∙ nth-table blank_row 24 (λ j. row_at p.rows (source j)) line low high in
      let name : slot_at names line ≡ slot_at order left = ap (λ (ns : List ℕ). slot_at ns line) is_names ∙ nth-table 0 24 (λ k. slot_at order (source k)) line low high ∙ ap (slot_at order) leaves in
      written ∙ ap₂ (λ (s : List Row) (i : ℕ). set s i new) is_held name
      ∙ ap (set slots (slot_at order left)) (is_new ∙ ap (filled_to blank (columns p.wide)) row ∙ cleared p.wide (row_at p.rows (source line)) (sound.row (source line)))

-- all lines are filled
pub all_filled : (change : Row → Row) (rows : List Row) → lines_changed change 1 (24 + 1) rows ≡ rows_by (λ line. change (row_at rows line))
all_filled change rows = table_ext 24 _ _ (λ k low high. grind (arith, nat_tests))

pub all_cleared : (rows : List Row) → lines_changed (filled_to blank 132) 1 (24 + 1) rows ≡ rows_by (λ _. blank_row)
all_cleared rows = all_filled (filled_to blank 132) rows ∙ table_ext 24 _ _ (λ k low high. all_blank _ (λ j jlow jhigh. grind (arith, nat_tests)))

-- as a body fills them: with a cell and up to a column
pub filled_with : (now was : List Row) (first last : ℕ) (cell other : Cell) (to column : ℕ) → cell ≡ other
    → to ≡ column → now ≡ lines_changed (filled_to cell to) first last was
    → now ≡ lines_changed (filled_to other column) first last was
filled_with now was first last cell other to column same_cell same_column filled =
    filled ∙ ap₂ (λ (e : Cell) (k : ℕ). lines_changed (filled_to e k) first last was) same_cell same_column

-- the cursor is inside the margins
pub in_region : {X : Type 0} (p : Picture) (q r : X) → p.top ≤ p.line → p.line ≤ p.bottom → q ≡ (if is_in_region p then q else r)
in_region p q r below above =
    let inside : is_in_region p ≡ true = grind (arith, nat_tests) in
    ap (λ (b : Bool). if b then q else r) (sym inside)

-- lines that moved inside the margins, those that came free filled, and the cursor in column 1
pub region_moved : (p : Picture) (sound : Sound p) (source : ℕ → ℕ) (f : ℕ → Row) (was now : List Row) (first last to : ℕ) (cell : Cell)
    → p.top ≤ p.line → p.line ≤ p.bottom → was ≡ lines_taken source p.rows → cell ≡ blank → to ≡ columns p.wide
    → now ≡ lines_changed (filled_to cell to) first last was
    → ((k : ℕ) → (if nat_le first k && nat_lt k last then blank_row else row_at p.rows (source k)) ≡ f k)
    → moved_to_left (with_rows now p) ≡ (if is_in_region p then moved_to_left (with_rows (rows_by f) p) else p)
region_moved p sound source f was now first last to cell below above turned is_blank is_wide filled each =
    let rows : now ≡ rows_by f =
    scrolled p sound source was turned f first last now (filled_with now was first last cell blank to (columns p.wide) is_blank is_wide filled) each in
    ap (λ (rs : List Row). moved_to_left (with_rows rs p)) rows ∙ in_region p (moved_to_left (with_rows (rows_by f) p)) p below above

-- up and down by a count: n, or all of the lines
module _ (rows : List Row) (n count top bottom : ℕ) (apart : top ≤ bottom) (few : count ≡ min n (bottom + 1 - top)) where
  pub up_by : (first : ℕ) → first + count ≡ bottom + 1 → (k : ℕ)
      → (if nat_le first k && nat_lt k (bottom + 1) then blank_row else row_at rows (line_below count top bottom k))
      ≡ (if nat_le top k && nat_le k bottom then (if nat_le (k + n) bottom then row_at rows (k + n) else blank_row) else row_at rows k)
  up_by first at k = grind (arith, nat_tests)

  pub down_by : (last : ℕ) → last ≡ top + count → (k : ℕ)
      → (if nat_le top k && nat_lt k last then blank_row else row_at rows (line_above count top bottom k))
      ≡ (if nat_le top k && nat_le k bottom then (if nat_le (top + n) k then row_at rows (k - n) else blank_row) else row_at rows k)
  down_by last at k = grind (arith, nat_tests)
