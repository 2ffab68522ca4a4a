-- Lines that are touched, and what is told of the others.
use Rattle.std.proofs.Common.{◌≡◌, ℕ, ◌+◌, ◌-◌, ◌≤◌, Bool, true, false, List, length, set, sym, ap, inl, inr, ◌∙◌, arith}
use Rattle.std.specs.Prelude.{if◌then◌else◌, ◌==◌, ◌&&◌, nat_le, nat_lt}
use Rattle.std.proofs.lemmas.Bool.{cases_lt}
use Rattle.std.proofs.lemmas.Bool.Decides.{nat_tests}
use Rattle.std.proofs.lemmas.List.{get_or_past}
use Rattle.vt_screen.specs.declared.cell.Row.{Row}
use Rattle.vt_screen.specs.Table.{table, nth}
use Rattle.vt_screen.specs.Cells.{blank_row, row_at, rows_by}
use Rattle.vt_screen.specs.Puts.{with_row}
use Rattle.vt_screen.specs.Scrolls.{scrolled_up, scrolled_down}
use Rattle.vt_screen.specs.Slots.{ScreenState}
use Rattle.vt_screen.specs.Touched.{Told, all_touched, is_touched, touched_from}
use Rattle.vt_screen.specs.Written.{lines_changed}
use Rattle.vt_screen.proofs.Tables.{length-table, nth-table, nth_is, set_is, table_ext, table_is}

-- ---- marks

pub touched_one : (line : ℕ) (touched : List Bool) → length touched ≡ 24 → 1 ≤ line → line ≤ 24
    → set touched (line - 1) true ≡ touched_from line (line + 1) touched
touched_one line touched len low high =
    set_is true 24 touched (line - 1) true len (omega arith) ∙ table_ext 24 _ _ (λ k klow khigh. grind (arith, nat_tests))

-- one after another
pub touched_none : (first : ℕ) (touched : List Bool) → length touched ≡ 24 → touched ≡ touched_from first first touched
touched_none first touched len = table_is true 24 touched len ∙ table_ext 24 _ _ (λ k low high. grind (arith, nat_tests))

pub touched_more : (first line : ℕ) (touched was : List Bool) → 1 ≤ line → line ≤ 24 → first ≤ line
    → was ≡ touched_from first line touched → set was (line - 1) true ≡ touched_from first (line + 1) touched
touched_more first line touched was low high from is_was =
    let f : ℕ → Bool = λ k. if nat_le first k && nat_lt k line then true else is_touched touched k in
    ap (λ (ms : List Bool). set ms (line - 1) true) is_was
    ∙ set_is true 24 (table 24 f) (line - 1) true (length-table 24 f) (omega arith)
    ∙ table_ext 24 _ _ (λ k klow khigh. let there = nth-table true 24 f k klow khigh in grind (arith, nat_tests))

-- all of them
pub touched_all : (touched : List Bool) → all_touched ≡ touched_from 1 25 touched
touched_all touched = table_ext 24 _ _ (λ k low high. grind (arith, nat_tests))

-- ---- what is told

-- a line that isn't touched is one of the screen
pub untouched_low : (touched : List Bool) (k : ℕ) → is_touched touched k ≡ false → 1 ≤ k
untouched_low touched k untouched = grind (arith, nat_tests)

pub untouched_high : (f : ℕ → Bool) (k : ℕ) → is_touched (table 24 f) k ≡ false → k ≤ 24
untouched_high f k untouched = elim (cases_lt 24 k) [
  | inl past ↦
      let beyond : nth true (table 24 f) k ≡ true =
      nth_is true (table 24 f) k ∙ get_or_past (table 24 f) (k - 1) true (omega (arith, length-table 24 f)) in
      grind (arith, nat_tests)
  | inr within ↦ omega arith
]

-- of a screen whose lines are all touched nothing is told
pub nothing_told : (rows before : List Row) (touched : List Bool) → touched ≡ all_touched
    → (k : ℕ) → is_touched touched k ≡ false → row_at rows k ≡ row_at before k
nothing_told rows before touched all k untouched =
    let there : is_touched all_touched k ≡ false = sym (ap (λ (ms : List Bool). is_touched ms k) all) ∙ untouched in
    let high = untouched_high (λ _. true) k there in
    let here = nth-table true 24 (λ _. true) k (untouched_low all_touched k there) high in
    absurd (let e : true ≡ false = grind (arith, nat_tests) in cc)

-- what was told is told where the rows of all lines that weren't touched stay
module _ (held seen : ScreenState) (first last : ℕ) (rows : List Row) (touched : List Bool)
    (same : held ≡ seen) (marks : touched ≡ touched_from first last held.touched) where
  pub told_by : (f : ℕ → Row) → rows ≡ rows_by f
      → ((k : ℕ) → (nat_le first k && nat_lt k last) ≡ false → f k ≡ row_at held.picture.rows k)
      → (before : List Row) → Told before seen → (k : ℕ) → is_touched touched k ≡ false → row_at rows k ≡ row_at before k
  told_by f is_rows outside before told k untouched =
      let g : ℕ → Bool = λ line. if nat_le first line && nat_lt line last then true else is_touched held.touched line in
      let there : is_touched (table 24 g) k ≡ false = sym (ap (λ (ms : List Bool). is_touched ms k) marks) ∙ untouched in
      let low = untouched_low touched k untouched in
      let high = untouched_high g k there in
      let here = nth-table true 24 g k low high in
      let marked : g k ≡ false = grind (arith, nat_tests) in
      let was : is_touched held.touched k ≡ false = grind (arith, nat_tests) in
      let out : (nat_le first k && nat_lt k last) ≡ false = grind (arith, nat_tests) in
      ap (λ (rs : List Row). row_at rs k) is_rows ∙ nth-table blank_row 24 f k low high ∙ outside k out
      ∙ ap (λ (s : ScreenState). row_at s.picture.rows k) same
      ∙ told k (sym (ap (λ (s : ScreenState). is_touched s.touched k) same) ∙ was)

module _ (held seen : ScreenState) (rows : List Row) (touched : List Bool) (same : held ≡ seen) where
  -- one row is another
  pub row_told : (line : ℕ) (row : Row) → touched ≡ touched_from line (line + 1) held.touched
      → rows ≡ with_row line row held.picture.rows
      → (before : List Row) → Told before seen → (k : ℕ) → is_touched touched k ≡ false → row_at rows k ≡ row_at before k
  row_told line row marks is_rows =
      told_by held seen line (line + 1) rows touched same marks (λ k. if k == line then row else row_at held.picture.rows k)
      is_rows (λ k out. grind (arith, nat_tests))

  -- rows from one line to before another are others
  pub lines_told : (change : Row → Row) (first last : ℕ) → touched ≡ touched_from first last held.touched
      → rows ≡ lines_changed change first last held.picture.rows
      → (before : List Row) → Told before seen → (k : ℕ) → is_touched touched k ≡ false → row_at rows k ≡ row_at before k
  lines_told change first last marks is_rows =
      told_by held seen first last rows touched same marks
      (λ k. if nat_le first k && nat_lt k last then change (row_at held.picture.rows k) else row_at held.picture.rows k)
      is_rows (λ k out. grind (arith, nat_tests))

  -- lines scroll
  pub up_told : (n top bottom : ℕ) → touched ≡ touched_from top (bottom + 1) held.touched
      → rows ≡ scrolled_up n top bottom held.picture.rows
      → (before : List Row) → Told before seen → (k : ℕ) → is_touched touched k ≡ false → row_at rows k ≡ row_at before k
  up_told n top bottom marks is_rows =
      told_by held seen top (bottom + 1) rows touched same marks
      (λ k. if nat_le top k && nat_le k bottom then (if nat_le (k + n) bottom then row_at held.picture.rows (k + n) else blank_row) else row_at held.picture.rows k)
      is_rows (λ k out. grind (arith, nat_tests))

  pub down_told : (n top bottom : ℕ) → touched ≡ touched_from top (bottom + 1) held.touched
      → rows ≡ scrolled_down n top bottom held.picture.rows
      → (before : List Row) → Told before seen → (k : ℕ) → is_touched touched k ≡ false → row_at rows k ≡ row_at before k
  down_told n top bottom marks is_rows =
      told_by held seen top (bottom + 1) rows touched same marks
      (λ k. if nat_le top k && nat_le k bottom then (if nat_le (top + n) k then row_at held.picture.rows (k - n) else blank_row) else row_at held.picture.rows k)
      is_rows (λ k out. grind (arith, nat_tests))
