-- A row that shows a text, and spaces behind it.
use Rattle.std.proofs.Common.{◌≡◌, ℕ, suc, ◌+◌, ◌-◌, ◌<◌, ◌≤◌, ◌==◌, Bool, true, false, List, [], ◌∷◌, length, take, get_or, reverse, refl, sym, ap, ap₂, ◌∙◌, inl, inr, arith}
use Rattle.std.specs.List.{flat_map, list_all, suffix_len}
use Rattle.std.proofs.lemmas.Bool.{cases_lt}
use Rattle.std.proofs.lemmas.Bool.Decides.{nat_tests}
use Rattle.std.proofs.lemmas.List.{get_or-map, get_or-reverse, get_or-take, get_or_past, length-map, length-reverse, length-take}
use Rattle.std.proofs.lemmas.List.Sums.{AllPass-from_list_all, list_all-from_AllPass, prefix_len_passes, prefix_len_stops, suffix_len_is, suffix_len-le-length}
use Rattle.screen_rows.specs.Plain.{glyphs_of}
use Rattle.screen_rows.specs.RowText.{is_space, printed, trimmed}
use Rattle.vt_parser.specs.Syntax.{is_graphic}
use Rattle.vt_screen.specs.declared.cell.Cell.{Cell}
use Rattle.vt_screen.specs.declared.cell.Row.{Row}
use Rattle.vt_screen.specs.declared.cell.Size.{Size}
use Rattle.vt_screen.specs.declared.cell.Size.TheVariants.{Single}
use Rattle.vt_screen.specs.Cells.{blank, cell_at}
use Rattle.vt_screen.specs.Picture.{margin_of}
use Rattle.vt_screen.specs.Table.{nth}
use Rattle.transcripts.specs.PlainText.{without_spaces}
use Rattle.screen_transcript.specs.Rows.{row_printed}
use Rattle.screen_transcript.proofs.RowLemmas.{ascii_all}

pub record HasText (row : Row) (text : List ℕ) : Type 0 where
  pub size : row.size ≡ Single
  pub whole : length row.cells ≡ 132
  pub short : length text ≤ 80
  pub graphic : list_all is_graphic text ≡ true
  pub glyphs : (k : ℕ) → 1 ≤ k → k ≤ 80 → (cell_at row k).glyph ≡ get_or text (k - 1) 32

-- ---- lists

same_list : (xs ys : List ℕ) → length xs ≡ length ys → ((k : ℕ) → k < length xs → get_or xs k 32 ≡ get_or ys k 32) → xs ≡ ys
same_list [] [] long each = refl
same_list [] (y ∷ ys) long each = absurd (omega (arith, long))
same_list (x ∷ xs) [] long each = absurd (omega (arith, long))
same_list (x ∷ xs) (y ∷ ys) long each =
    ap₂ (λ (a : ℕ) (l : List ℕ). a ∷ l) (each 0 (omega arith)) (same_list xs ys (omega (arith, long)) (λ k lt. each (suc k) (omega (arith, lt))))

module _ (p : ℕ → Bool) (xs : List ℕ) where
  suffix_passes : (k : ℕ) → k < length xs → length xs - suffix_len p xs ≤ k → p (get_or xs k 32) ≡ true
  suffix_passes k lt le =
      let j = length xs - 1 - k in
      let back : length xs - 1 - j ≡ k = omega (arith, lt) in
      ap p (ap (λ i. get_or xs i 32) (sym back) ∙ sym (get_or-reverse xs j 32 (omega (arith, lt))))
      ∙ prefix_len_passes p (reverse xs) j 32 (omega (arith, lt, le, suffix_len-le-length p xs))

  suffix_stops : 0 < length xs - suffix_len p xs → p (get_or xs (length xs - suffix_len p xs - 1) 32) ≡ false
  suffix_stops some =
      let s = suffix_len p xs in
      let back : length xs - 1 - s ≡ length xs - s - 1 = omega (arith, some) in
      ap p (ap (λ i. get_or xs i 32) (sym back) ∙ sym (get_or-reverse xs s 32 (omega (arith, some))))
      ∙ prefix_len_stops p (reverse xs) 32 (omega (arith, some, length-reverse xs))

-- ---- the text of such a row

space_of : (cell : Cell) → cell.glyph ≡ 32 → is_space cell ≡ true
space_of cell is = grind (arith, nat_tests)

ink_of : (cell : Cell) → is_graphic cell.glyph ≡ true → (cell.glyph == 32) ≡ false → is_space cell ≡ false
ink_of cell graphic is = grind (arith, nat_tests)

is_32 : (byte : ℕ) → (byte == 32) ≡ true → byte ≡ 32
is_32 byte is = grind (arith, nat_tests)

module _ (row : Row) (text : List ℕ) (has : HasText row text) where
  abbrev cells : List Cell
  cells = take 80 row.cells

  abbrev inked : ℕ
  inked = length text - suffix_len (λ byte. byte == 32) text

  long : length cells ≡ 80
  long = omega (arith, length-take 80 row.cells, has.whole)

  glyph_at : (k : ℕ) → k < 80 → (get_or cells k blank).glyph ≡ get_or text k 32
  unfolding nth
  glyph_at k lt =
      let there : k + 1 - 1 ≡ k = omega arith in
      ap (λ (c : Cell). c.glyph) (get_or-take 80 row.cells k blank lt ∙ ap (λ j. get_or row.cells j blank) (sym there))
      ∙ has.glyphs (k + 1) (omega arith) (omega (arith, lt)) ∙ ap (λ j. get_or text j 32) there

  passes : (k : ℕ) → inked ≤ k → k < length cells → is_space (get_or cells k blank) ≡ true
  passes k from lt = elim (cases_lt k (length text)) [
    | inl within ↦
        space_of (get_or cells k blank) (glyph_at k (omega (arith, lt, long)) ∙ is_32 (get_or text k 32) (suffix_passes (λ byte. byte == 32) text k within from))
    | inr past ↦ space_of (get_or cells k blank) (glyph_at k (omega (arith, lt, long)) ∙ get_or_past text k 32 past)
  ]

  stops : 0 < inked → is_space (get_or cells (inked - 1) blank) ≡ false
  stops some =
      let at = inked - 1 in
      let same = glyph_at at (omega (arith, some, has.short)) in
      ink_of (get_or cells at blank) (ap is_graphic same ∙ AllPass-from_list_all is_graphic text has.graphic at 32 (omega (arith, some)))
      (ap (λ g. g == 32) same ∙ suffix_stops (λ byte. byte == 32) text some)

  kept : length cells - suffix_len is_space cells ≡ inked
  kept = omega (arith, long, has.short, suffix_len_is is_space cells inked blank (omega (arith, long, has.short)) passes stops)

  taken : glyphs_of (take inked cells) ≡ take inked text
  taken =
      let one : length (take inked text) ≡ inked = omega (arith, length-take inked text) in
      let two : length (glyphs_of (take inked cells)) ≡ inked =
      length-map (take inked cells) (λ cell. cell.glyph) ∙ omega (arith, length-take inked cells, long, has.short) in
      same_list (glyphs_of (take inked cells)) (take inked text) (two ∙ sym one) (λ k lt.
      get_or-map (λ (cell : Cell). cell.glyph) (take inked cells) k blank 32 (omega (arith, lt, length-map (take inked cells) (λ (cell : Cell). cell.glyph)))
      ∙ ap (λ (c : Cell). c.glyph) (get_or-take inked cells k blank (omega (arith, lt, two)))
      ∙ glyph_at k (omega (arith, lt, two, has.short)) ∙ sym (get_or-take inked text k 32 (omega (arith, lt, two))))

  front_graphic : list_all is_graphic (take inked text) ≡ true
  front_graphic = list_all-from_AllPass is_graphic (take inked text) (λ k d lt.
      ap is_graphic (get_or-take inked text k d (omega (arith, lt, length-take inked text)))
      ∙ AllPass-from_list_all is_graphic text has.graphic k d (omega (arith, lt, length-take inked text)))

  pub row_text : row_printed false row ≡ without_spaces text
  unfolding row_printed
  row_text =
      ap (λ (size : Size). flat_map printed (trimmed (take (margin_of false size) row.cells))) has.size
      ∙ ap (λ k. flat_map printed (take k cells)) kept
      ∙ sym (ascii_all (take inked cells) (ap (list_all is_graphic) taken ∙ front_graphic)) ∙ taken
