-- A row that shows a text, and spaces behind it.
use Rattle.std.proofs.Common.{◌≡◌, ℕ, suc, ◌+◌, ◌-◌, ◌<◌, ◌≤◌, ◌==◌, ◌&&◌, Bool, true, false, not, List, [], ◌∷◌, ◌++◌, length, take, get_or, reverse, refl, sym, ap, ap₂, ◌∙◌, subst, inl, inr, add-one, arith}
use Rattle.std.specs.List.{flat_map, list_all, suffix_len}
use Rattle.std.proofs.lemmas.Bool.{cases_lt}
use Rattle.std.proofs.lemmas.Bool.Decides.{nat_tests}
use Rattle.std.proofs.lemmas.List.{get_or-reverse, get_or-take, get_or_past, length-reverse, length-take}
use Rattle.std.proofs.lemmas.List.Sums.{AllPass-from_list_all, prefix_len_passes, prefix_len_stops, suffix_len_is, suffix_len-le-length}
use Rattle.sheet.specs.declared.cell.Kind.{Kind}
use Rattle.sheet.specs.declared.cell.Kind.TheVariants.{Narrow}
use Rattle.sheet.specs.declared.rendition.Colour.TheVariants.{Default}
use Rattle.sheet.specs.Cells.{Cell, blank, cell_at, covered_kind, is_covered}
use Rattle.sheet.specs.Table.{nth}
use Rattle.vt_parser.specs.Syntax.{is_graphic}
use Rattle.xterm_rows.specs.RowText.{is_space, printed}
use Rattle.xterm_rows.proofs.TextLemmas.{letter_printed}
use Rattle.transcripts.specs.PlainText.{without_spaces}
use Rattle.xterm_transcript.specs.Rows.{row_printed}

-- a character of one column alone, in some rendition
pub record IsGlyph (cell : Cell) (character : ℕ) : Type 0 where
  pub kind : cell.kind ≡ Narrow
  pub is : cell.character ≡ character
  pub alone : cell.marks ≡ []

pub record HasText (columns : ℕ) (row : List Cell) (text : List ℕ) : Type 0 where
  pub whole : length row ≡ columns
  pub short : length text ≤ columns
  pub graphic : list_all is_graphic text ≡ true
  pub each : (k : ℕ) → 1 ≤ k → k ≤ columns → IsGlyph (cell_at row k) (get_or text (k - 1) 32)

-- ---- lists

module _ (p : ℕ → Bool) (xs : List ℕ) where
  suffix_passes : (k : ℕ) → k < length xs → length xs - suffix_len p xs ≤ k → p (get_or xs k 32) ≡ true
  suffix_passes k lt le =
      let j = length xs - 1 - k in
      let back : length xs - 1 - j ≡ k = omega (arith, lt) in
      ap p (ap (λ i. get_or xs i 32) (sym back) ∙ sym (get_or-reverse xs j 32 (omega (arith, lt))))
      ∙ prefix_len_passes p (reverse xs) j 32 (omega (arith, lt, le, suffix_len-le-length p xs))

  suffix_stops : 0 < length xs - suffix_len p xs → p (get_or xs (length xs - suffix_len p xs - 1) 32) ≡ false
  suffix_stops some =
      let s = suffix_len p xs in
      let back : length xs - 1 - s ≡ length xs - s - 1 = omega (arith, some) in
      ap p (ap (λ i. get_or xs i 32) (sym back) ∙ sym (get_or-reverse xs s 32 (omega (arith, some))))
      ∙ prefix_len_stops p (reverse xs) 32 (omega (arith, some, length-reverse xs))

-- ---- the text of such a row

space_by : (cell : Cell) (c : ℕ) → IsGlyph cell c → is_space cell ≡ (c == 32) && true
unfolding is_space is_covered
space_by cell c glyph =
    ap (λ (kind : Kind). not (covered_kind kind) && (cell.character == 32) && (length cell.marks == 0)) glyph.kind
    ∙ ap₂ (λ (character : ℕ) (marks : List ℕ). (character == 32) && (length marks == 0)) glyph.is glyph.alone

and_true : (b : Bool) → b && true ≡ b
and_true true = refl
and_true false = refl

space_is : (cell : Cell) (c : ℕ) → IsGlyph cell c → is_space cell ≡ (c == 32)
space_is cell c glyph = space_by cell c glyph ∙ and_true (c == 32)

is_32 : (byte : ℕ) → (byte == 32) ≡ true → byte ≡ 32
is_32 byte is = grind (arith, nat_tests)

ascii : (byte : ℕ) → is_graphic byte ≡ true → byte < 128
ascii byte is = grind (arith, nat_tests)

glyph_printed : (cell : Cell) (c : ℕ) → IsGlyph cell c → c < 128 → printed cell ≡ c ∷ []
glyph_printed cell c glyph low =
    letter_printed cell.rendition cell (record { kind = glyph.kind; rendition_is = refl; alone = glyph.alone; low = omega (arith, low, glyph.is) })
    ∙ ap (λ n. n ∷ []) glyph.is

spelled : (cells : List Cell) (text : List ℕ) → length cells ≡ length text
    → ((k : ℕ) → k < length text → IsGlyph (get_or cells k (blank Default)) (get_or text k 32) × (get_or text k 32 < 128)) → flat_map printed cells ≡ text
spelled [] [] long each = refl
spelled [] (c ∷ text) long each = absurd (omega (arith, long))
spelled (cell ∷ cells) [] long each = absurd (omega (arith, long))
spelled (cell ∷ cells) (c ∷ text) long each =
    let here = each 0 (omega arith) in
    ap₂ (λ (l m : List ℕ). l ++ m) (glyph_printed cell c here.0 here.1)
    (spelled cells text (omega (arith, long)) (λ k lt. each (suc k) (omega (arith, lt))))

module _ (columns : ℕ) (row : List Cell) (text : List ℕ) (has : HasText columns row text) where
  abbrev inked : ℕ
  inked = length text - suffix_len (λ byte. byte == 32) text

  glyph_at : (k : ℕ) → k < columns → IsGlyph (get_or row k (blank Default)) (get_or text k 32)
  unfolding nth
  glyph_at k lt =
      let there : k + 1 - 1 ≡ k = omega arith in
      let on : cell_at row (k + 1) ≡ get_or row k (blank Default) = ap (cell_at row) (add-one k) in
      let here = has.each (k + 1) (omega arith) (omega (arith, lt)) in
      subst (λ (c : Cell). IsGlyph c (get_or text k 32)) on (subst (λ j. IsGlyph (cell_at row (k + 1)) (get_or text j 32)) there here)

  passes : (k : ℕ) → inked ≤ k → k < length row → is_space (get_or row k (blank Default)) ≡ true
  passes k from lt =
      let here = space_is (get_or row k (blank Default)) (get_or text k 32) (glyph_at k (omega (arith, lt, has.whole))) in
      elim (cases_lt k (length text)) [
        | inl within ↦ here ∙ suffix_passes (λ byte. byte == 32) text k within from
        | inr past ↦ here ∙ ap (λ n. n == 32) (get_or_past text k 32 past)
      ]

  stops : 0 < inked → is_space (get_or row (inked - 1) (blank Default)) ≡ false
  stops some =
      space_is (get_or row (inked - 1) (blank Default)) (get_or text (inked - 1) 32) (glyph_at (inked - 1) (omega (arith, some, has.short)))
      ∙ suffix_stops (λ byte. byte == 32) text some

  kept : length row - suffix_len is_space row ≡ inked
  kept = omega (arith, has.whole, has.short, suffix_len_is is_space row inked (blank Default) (omega (arith, has.whole, has.short)) passes stops)

  pub row_text : row_printed row ≡ without_spaces text
  unfolding row_printed
  row_text =
      let one : length (take inked text) ≡ inked = omega (arith, length-take inked text) in
      let two : length (take inked row) ≡ inked = omega (arith, length-take inked row, has.whole, has.short) in
      ap (λ k. flat_map printed (take k row)) kept
      ∙ spelled (take inked row) (take inked text) (two ∙ sym one) (λ k lt.
      let at : k < inked = omega (arith, lt, one) in
      let cell_is = get_or-take inked row k (blank Default) at in
      let byte_is = get_or-take inked text k 32 at in
      let low : get_or text k 32 < 128 = ascii (get_or text k 32) (AllPass-from_list_all is_graphic text has.graphic k 32 (omega (arith, at))) in (
        subst (λ (c : Cell). IsGlyph c (get_or (take inked text) k 32)) (sym cell_is)
            (subst (IsGlyph (get_or row k (blank Default))) (sym byte_is) (glyph_at k (omega (arith, at, has.short)))),
        omega (arith, low, byte_is),
      ))
