-- A part of the display, line by line.
use Rattle.std.proofs.Common.{◌≡◌, ◌≢◌, ℕ, zero, suc, ◌+◌, ◌<◌, ◌≤◌, Bool, true, false, List, length, refl, sym, ap, ap₂, inl, inr, ◌∙◌, arith}
use Rattle.std.specs.Prelude.{if◌then◌else◌, ◌==◌, ◌&&◌, ◌||◌, nat_le, nat_lt, not}
use Rattle.std.specs.List.{range_with_len, list_all}
use Rattle.std.proofs.lemmas.Bool.{cases_eq, cases_lt}
use Rattle.std.proofs.lemmas.Bool.Decides.{nat_tests}
use Rattle.vt_screen.specs.declared.cell.Cell.{Cell}
use Rattle.vt_screen.specs.declared.cell.Size.TheVariants.{Single}
use Rattle.vt_screen.specs.declared.cell.Row.{Row}
use Rattle.vt_screen.specs.Table.{table, nth}
use Rattle.vt_screen.specs.Cells.{blank, blank_row, cell_at, row_at, row_by, rows_by, is_single}
use Rattle.vt_screen.specs.Picture.{Picture, Sound, SoundRow, columns, margin_of, right_margin}
use Rattle.vt_screen.specs.Puts.{with_row}
use Rattle.vt_screen.specs.Erasures.{in_line_part, in_other_lines, in_part, erased_whole, part_erased, display_erased}
use Rattle.vt_screen.specs.Lines.{filled_to}
use Rattle.vt_screen.specs.Written.{lines_changed}
use Rattle.vt_screen.proofs.Tables.{nth-table, table_ext, table_is}
use Rattle.vt_screen.proofs.Rows.{row_is}
use Rattle.vt_screen.proofs.SoundRows.{all_blank, blank_either, cleared, either_row, margin_low, sound_blank}

-- a test of all numbers of a range
all_hold : (test : ℕ → Bool) (a n : ℕ) → ((k : ℕ) → a ≤ k → k < a + n → test k ≡ true) → list_all test (range_with_len a n) ≡ true
all_hold test a zero each = refl
all_hold test a (suc n) each =
    ap₂ ◌&&◌ (each a (omega arith) (omega arith)) (all_hold test (a + 1) n (λ k low high. each k (omega arith) (omega arith)))

both_true : (b c : Bool) → b && c ≡ true → (b ≡ true) × (c ≡ true)
both_true true c e = (refl, e)
both_true false c e = absurd (cc)

all_each : (test : ℕ → Bool) (a n : ℕ) → list_all test (range_with_len a n) ≡ true → (k : ℕ) → a ≤ k → k < a + n → test k ≡ true
all_each test a zero all k low high = absurd (omega arith)
all_each test a (suc n) all k low high =
    let parts = both_true (test a) (list_all test (range_with_len (a + 1) n)) all in
    elim (cases_eq k a) [
      | inl e ↦ ap test e ∙ parts.0
      | inr ne ↦ all_each test (a + 1) n parts.1 k (omega arith) (omega arith)
    ]

and_false : (b c : Bool) → c ≡ false → b && c ≡ false
and_false true c e = e
and_false false c e = refl

one_fails : (test : ℕ → Bool) (a n k : ℕ) → a ≤ k → k < a + n → test k ≡ false → list_all test (range_with_len a n) ≡ false
one_fails test a zero k low high fails = absurd (omega arith)
one_fails test a (suc n) k low high fails =
    elim (cases_eq k a) [
      | inl e ↦ ap (λ (b : Bool). b && list_all test (range_with_len (a + 1) n)) (ap test (sym e) ∙ fails)
      | inr ne ↦ and_false (test a) (list_all test (range_with_len (a + 1) n)) (one_fails test (a + 1) n k (omega arith) (omega arith) fails)
    ]

-- a test that holds at every number of a range or at none
all_same : (test : ℕ → Bool) (n : ℕ) (b : Bool) → 1 ≤ n → ((k : ℕ) → test k ≡ b) → list_all test (range_with_len 1 n) ≡ b
all_same test n true some each = all_hold test 1 n (λ k low high. each k)
all_same test n false some each = one_fails test 1 n 1 (omega arith) (omega arith) (each 1)

itself : (k : ℕ) (x y : Bool) → (if k == k then x else y) ≡ x
itself k x y = grind (arith, nat_tests)

elsewhere : (j k : ℕ) (x y : Bool) → j ≢ k → (if j == k then x else y) ≡ y
elsewhere j k x y ne = grind (arith, nat_tests)

not_other : (part k : ℕ) → part ≤ 1 → in_other_lines part k k ≡ false
not_other zero k small = grind (arith, nat_tests)
not_other (suc zero) k small = grind (arith, nat_tests)
not_other (suc (suc part)) k small = absurd (omega arith)

blank_or_same : (row : Row) (test : ℕ → Bool) (b : Bool) → length row.cells ≡ 132 → ((k : ℕ) → test k ≡ b)
    → row_by (if b then Single else row.size) (λ k. if test k then blank else cell_at row k) ≡ (if b then blank_row else row)
blank_or_same row test true whole each = all_blank (λ k. if test k then blank else cell_at row k) (λ k low high. ap (λ (t : Bool). if t then blank else cell_at row k) (each k))
blank_or_same row test false whole each =
    row_is row.size (table 132 (λ k. if test k then blank else cell_at row k)) row.cells
    (table_ext 132 _ (nth blank row.cells) (λ k low high. ap (λ (t : Bool). if t then blank else cell_at row k) (each k)) ∙ sym (table_is blank 132 row.cells whole))

-- the wrap, where the cursor's line is erased whole and where it isn't
wrap_whole : (wrap single whole : Bool) → whole ≡ true → wrap && single ≡ wrap && (single || not whole)
wrap_whole wrap single whole e = ap (λ (b : Bool). wrap && b) (single_or single) ∙ ap (λ (b : Bool). wrap && (single || not b)) (sym e)
  where
    single_or : (b : Bool) → b ≡ b || false
    single_or true = refl
    single_or false = refl

wrap_part : (wrap single whole : Bool) → whole ≡ false → wrap ≡ wrap && (single || not whole)
wrap_part wrap single whole e = wrap_or wrap single ∙ ap (λ (b : Bool). wrap && (single || not b)) (sym e)
  where
    wrap_or : (w b : Bool) → w ≡ w && (b || true)
    wrap_or true true = refl
    wrap_or true false = refl
    wrap_or false b = refl

module _ (part : ℕ) (p : Picture) (sound : Sound p) where
  here : (column : ℕ) → in_part part p p.line column ≡ in_line_part part p.column column
  here column = itself p.line (in_line_part part p.column column) (in_other_lines part p.line p.line)

  there : (line column : ℕ) → line ≢ p.line → in_part part p line column ≡ in_other_lines part p.line line
  there line column ne = elsewhere line p.line (in_line_part part p.column column) (in_other_lines part p.line line) ne

  -- a line that is not the cursor's is in the part or is not
  other_whole : (line : ℕ) → line ≢ p.line → erased_whole part p line ≡ in_other_lines part p.line line
  other_whole line ne =
      all_same (in_part part p line) (right_margin p line) (in_other_lines part p.line line) (omega (arith, margin_low p.wide (row_at p.rows line).size)) (λ k. there line k ne)

  -- the row of a line, as the display's erasure leaves it
  abbrev pub erased_row : ℕ → Row
  erased_row line =
      row_by (if erased_whole part p line then Single else (row_at p.rows line).size) (λ column. if in_part part p line column then blank else cell_at (row_at p.rows line) column)

  -- the lines as they are once the others are filled
  abbrev other_erased : ℕ → Row
  other_erased line = if in_other_lines part p.line line then blank_row else row_at p.rows line

  other_row : (line : ℕ) → line ≢ p.line → erased_row line ≡ other_erased line
  other_row line ne =
      let row = row_at p.rows line in
      ap (λ (b : Bool). row_by (if b then Single else row.size) (λ column. if in_part part p line column then blank else cell_at row column)) (other_whole line ne)
      ∙ blank_or_same row (in_part part p line) (in_other_lines part p.line line) (sound.row line).cells (λ k. there line k ne)

  pub row_whole : erased_whole part p p.line ≡ true → erased_row p.line ≡ blank_row
  row_whole whole =
      let row = row_at p.rows p.line in
      let f : ℕ → Cell = λ column. if in_part part p p.line column then blank else cell_at row column in
      ap (λ (b : Bool). row_by (if b then Single else row.size) f) whole
      ∙ all_blank f (λ k low high. elim (cases_lt (margin_of p.wide row.size) k) [
        | inl past ↦ blank_either (in_part part p p.line k) (cell_at row k) ((sound.row p.line).blank_right k past)
        | inr within ↦ ap (λ (b : Bool). if b then blank else cell_at row k) (all_each (in_part part p p.line) 1 (right_margin p p.line) whole k low (omega arith))
      ])

  pub row_part : erased_whole part p p.line ≡ false → erased_row p.line ≡ part_erased part p.column (row_at p.rows p.line)
  row_part whole =
      let row = row_at p.rows p.line in
      ap (λ (b : Bool). row_by (if b then Single else row.size) (λ column. if in_part part p p.line column then blank else cell_at row column)) whole
      ∙ row_is row.size _ _ (table_ext 132 _ _ (λ k low high. ap (λ (b : Bool). if b then blank else cell_at row k) (here k)))

  module _ (was now : List Row) (first last : ℕ) (told : (line : ℕ) → 1 ≤ line → line ≤ 24 → nat_le first line && nat_lt line (last + 1) ≡ in_other_lines part p.line line)
      (others : was ≡ lines_changed (filled_to blank (columns p.wide)) first (last + 1) p.rows) where
    others_erased : was ≡ rows_by other_erased
    others_erased = others ∙ table_ext 24 _ _ (λ k low high.
        ap (λ (b : Bool). if b then filled_to blank (columns p.wide) (row_at p.rows k) else row_at p.rows k) (told k low high)
        ∙ ap (λ (r : Row). if in_other_lines part p.line k then r else row_at p.rows k) (cleared p.wide (row_at p.rows k) (sound.row k)))

    row_was : row_at was p.line ≡ other_erased p.line
    row_was = ap (λ (rows : List Row). row_at rows p.line) others_erased ∙ nth-table blank_row 24 other_erased p.line sound.line_low sound.line_high

    rows_erased : (row : Row) → now ≡ with_row p.line row was → erased_row p.line ≡ row → now ≡ rows_by erased_row
    rows_erased row written is_row =
        written ∙ ap (with_row p.line row) others_erased
        ∙ table_ext 24 _ _ (λ k low high.
        let other = nth-table blank_row 24 other_erased k low high in
        elim (cases_eq k p.line) [
          | inl e ↦ (let same = ap erased_row e in grind (arith, nat_tests))
          | inr ne ↦ (let same = other_row k ne in grind (arith, nat_tests))
        ])

    pub erased_all : (wrap : Bool) → erased_whole part p p.line ≡ true
        → now ≡ with_row p.line (filled_to blank (columns p.wide) (row_at was p.line)) was
        → wrap ≡ p.wrap && is_single (row_at p.rows p.line).size
        → record p { rows = now; wrap = wrap } ≡ display_erased part p
    erased_all wrap whole written is_wrap =
        let blanked : filled_to blank (columns p.wide) (row_at was p.line) ≡ blank_row =
        ap (filled_to blank (columns p.wide)) row_was
        ∙ cleared p.wide (other_erased p.line) (either_row (SoundRow p.wide) (in_other_lines part p.line p.line) blank_row (row_at p.rows p.line) (sound_blank p.wide) (sound.row p.line)) in
        ap₂ (λ (rows : List Row) (w : Bool). record p { rows = rows; wrap = w })
        (rows_erased blank_row (written ∙ ap (λ (r : Row). with_row p.line r was) blanked) (row_whole whole))
        (is_wrap ∙ wrap_whole p.wrap (is_single (row_at p.rows p.line).size) (erased_whole part p p.line) whole)

    pub erased_in_part : part ≤ 1 → erased_whole part p p.line ≡ false
        → now ≡ with_row p.line (part_erased part p.column (row_at was p.line)) was
        → record p { rows = now } ≡ display_erased part p
    erased_in_part small whole written =
        let stays : row_at was p.line ≡ row_at p.rows p.line = row_was ∙ ap (λ (b : Bool). if b then blank_row else row_at p.rows p.line) (not_other part p.line small) in
        ap₂ (λ (rows : List Row) (w : Bool). record p { rows = rows; wrap = w })
        (rows_erased (part_erased part p.column (row_at p.rows p.line)) (written ∙ ap (λ (r : Row). with_row p.line (part_erased part p.column r) was) stays) (row_part whole))
        (wrap_part p.wrap (is_single (row_at p.rows p.line).size) (erased_whole part p p.line) whole)

  -- which parts have the whole of the cursor's line
  pub whole_to_the_end : part ≡ 0 → (p.column == 1) ≡ erased_whole part p p.line
  whole_to_the_end is_part =
      let margin = margin_low p.wide (row_at p.rows p.line).size in
      let is = λ (k : ℕ). here k ∙ ap (λ (n : ℕ). in_line_part n p.column k) is_part in
      elim (cases_eq p.column 1) [
        | inl e ↦ (let yes' : (p.column == 1) ≡ true = grind (arith, nat_tests) in
            yes' ∙ sym (all_hold (in_part part p p.line) 1 (right_margin p p.line) (λ k low high. is k ∙ grind (arith, nat_tests))))
        | inr ne ↦ (let no' : (p.column == 1) ≡ false = grind (arith, nat_tests) in
            no' ∙ sym (one_fails (in_part part p p.line) 1 (right_margin p p.line) 1 (omega arith) (omega arith) (is 1 ∙ grind (arith, nat_tests, sound.column_low))))
      ]

  pub whole_from_the_start : part ≡ 1 → (p.column == right_margin p p.line) ≡ erased_whole part p p.line
  whole_from_the_start is_part =
      let margin = margin_low p.wide (row_at p.rows p.line).size in
      let is = λ (k : ℕ). here k ∙ ap (λ (n : ℕ). in_line_part n p.column k) is_part in
      elim (cases_eq p.column (right_margin p p.line)) [
        | inl e ↦ (let yes' : (p.column == right_margin p p.line) ≡ true = grind (arith, nat_tests) in
            yes' ∙ sym (all_hold (in_part part p p.line) 1 (right_margin p p.line) (λ k low high. is k ∙ grind (arith, nat_tests))))
        | inr ne ↦ (let no' : (p.column == right_margin p p.line) ≡ false = grind (arith, nat_tests) in
            no' ∙ sym (one_fails (in_part part p p.line) 1 (right_margin p p.line) (right_margin p p.line) (omega arith) (omega arith) (is (right_margin p p.line) ∙ grind (arith, nat_tests, sound.column_high))))
      ]

  pub whole_all : part ≡ 2 → true ≡ erased_whole part p p.line
  whole_all is_part = sym (all_hold (in_part part p p.line) 1 (right_margin p p.line) (λ k low high. here k ∙ ap (λ (n : ℕ). in_line_part n p.column k) is_part))
