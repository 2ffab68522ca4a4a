-- A found text that stands in one row is written as the row is printed.
use Rattle.std.proofs.Common.{◌≡◌, ℕ, zero, suc, ◌+◌, ◌-◌, ◌<◌, ◌≤◌, Bool, true, false, List, [], ◌∷◌, ◌++◌, length, get_or, take, drop, map, nat_eq, not, refl, ap, sym, ◌∙◌, arith, ◌||◌, inl, inr, encode_utf8, slice_index}
use Rattle.std.specs.List.{AllPass, flat_map, suffix_len}
use Rattle.std.proofs.lemmas.Bool.{cases_Bool, cases_lt, eqb-true, le-leb, le-ltb, lt-ltb, not-true}
use Rattle.std.proofs.lemmas.List.{get_or-map, length-map, take-map, take_all}
use Rattle.std.proofs.lemmas.List.Elements.{All-get_or}
use Rattle.std.proofs.lemmas.List.Folds.{flat_map-map}
use Rattle.std.proofs.lemmas.List.Sums.{AllPass-from_list_all, suffix_len-take_no, suffix_len-take_yes}
use Rattle.vt_screen.specs.declared.cell.Cell.{Cell}
use Rattle.vt_screen.specs.Cells.{blank, row_at}
use Rattle.vt_screen.specs.Picture.{margin_of}
use Rattle.screen_print.specs.declared.standing.Place.{Place}
use Rattle.screen_print.specs.FindLines.{found_rows, row_texts, rows_at, rows_reaching}
use Rattle.screen_rows.specs.RowText.{row_text, is_space, printed_line, trimmed}
use Rattle.screen_rows.specs.Glyphs.{character, special_graphics}
use Rattle.screen_print.specs.Places.{IsPlace}
use Rattle.screen_print.specs.Stills.{Still}
use Rattle.screen_print.proofs.FindLemmas.{enough, texts_at}

-- ---- spaces

apart : (m n : ℕ) → (m ≡ n → ⊥) → nat_eq m n ≡ false
apart m n differ = elim (cases_Bool (nat_eq m n)) [
  | inl t ↦ absurd (differ (eqb-true m n t))
  | inr f ↦ f
]

-- of the special graphics the blank alone is a space
no_space : (glyph : ℕ) → glyph < 31 → nat_eq (slice_index special_graphics (suc glyph)) 32 ≡ false
no_space glyph lt =
    let all : AllPass (λ x. not (nat_eq x 32)) (drop 1 special_graphics) =
    AllPass-from_list_all (λ x. not (nat_eq x 32)) (drop 1 special_graphics) refl in
    not-true _ (All-get_or (λ x. not (nat_eq x 32) ≡ true) (drop 1 special_graphics) glyph 0 lt all)

space_is : (glyph : ℕ) → nat_eq (character glyph) 32 ≡ (nat_eq glyph 0 || nat_eq glyph 32)
space_is zero = refl
space_is (suc glyph) =
    let some : nat_eq (suc glyph) 32 ≡ (nat_eq (suc glyph) 0 || nat_eq (suc glyph) 32) =
    ap (λ b. b || nat_eq (suc glyph) 32) (sym (apart (suc glyph) 0 (λ e. omega arith))) in
    elim (cases_lt (suc glyph) 32) [
      | inl lt ↦ rw (lt-ltb (suc glyph) 32 lt) (no_space glyph (omega arith) ∙ sym (apart (suc glyph) 32 (λ e. omega arith)) ∙ some)
      | inr ge ↦ rw (le-ltb (suc glyph) 32 ge) some
    ]

-- cells end in as many spaces as their characters
spaces_to : (cells : List Cell) (n : ℕ) → n ≤ length cells
    → suffix_len (λ c. nat_eq c 32) (take n (map (λ cell. character cell.glyph) cells)) ≡ suffix_len is_space (take n cells)
spaces_to cells zero low = refl
spaces_to cells (suc n) low =
    let read : Cell → ℕ = λ cell. character cell.glyph in
    let p : ℕ → Bool = λ c. nat_eq c 32 in
    let at : suc n - 1 ≡ n = omega arith in
    let long = length-map cells read in
    let last = get_or cells (suc n - 1) blank in
    let same : p (get_or (map read cells) (suc n - 1) 0) ≡ is_space last =
    ap p (get_or-map read cells (suc n - 1) blank 0 (omega arith)) ∙ space_is last.glyph in
    let before : suffix_len p (take (suc n - 1) (map read cells)) ≡ suffix_len is_space (take (suc n - 1) cells) =
    ap (λ k. suffix_len p (take k (map read cells))) at ∙ spaces_to cells n (omega arith) ∙ ap (λ k. suffix_len is_space (take k cells)) (sym at) in
    elim (cases_Bool (is_space last)) [
      | inl t ↦ suffix_len-take_yes p (map read cells) (suc n) 0 (omega arith) (omega (arith, long)) (same ∙ t) ∙ ap (λ k. 1 + k) before
          ∙ sym (suffix_len-take_yes is_space cells (suc n) blank (omega arith) low t)
      | inr f ↦ suffix_len-take_no p (map read cells) (suc n) 0 (omega arith) (omega (arith, long)) (same ∙ f)
          ∙ sym (suffix_len-take_no is_space cells (suc n) blank (omega arith) low f)
    ]

spaces_in : (cells : List Cell) → suffix_len (λ c. nat_eq c 32) (map (λ cell. character cell.glyph) cells) ≡ suffix_len is_space cells
spaces_in cells =
    let read : Cell → ℕ = λ cell. character cell.glyph in
    ap (suffix_len (λ c. nat_eq c 32)) (sym (take_all (length cells) (map read cells) (omega (arith, length-map cells read))))
    ∙ spaces_to cells (length cells) (omega arith) ∙ ap (suffix_len is_space) (take_all (length cells) cells (omega arith))

-- ---- rows

-- the row of a text that ends in it
one_row : (still : Still) (place : Place) (len : ℕ) → length still.rows ≡ 24 → IsPlace still place
    → place.column - 1 + len ≤ length (row_text still.wide (row_at still.rows place.line))
    → rows_reaching (place.column - 1 + len) (rows_at still place) ≡ row_text still.wide (row_at still.rows place.line)
one_row still place len whole is fits =
    let row = row_text still.wide (row_at still.rows place.line) in
    ap (rows_reaching (place.column - 1 + len)) (texts_at still place.line whole is.line_low is.line_high)
    ∙ sym (enough (place.column - 1 + len) row (drop place.line (row_texts still)) (le-leb (place.column - 1 + len) (length row) fits))

pub printed_found : (still : Still) (place : Place) (len : ℕ) → length still.rows ≡ 24 → IsPlace still place
    → place.column - 1 + len ≤ length (row_text still.wide (row_at still.rows place.line))
    → printed_line still.wide (row_at still.rows place.line) ≡ flat_map encode_utf8 (found_rows len still place) ++ 10 ∷ []
unfolding printed_line
printed_found still place len whole is fits =
    let read : Cell → ℕ = λ cell. character cell.glyph in
    let row = row_at still.rows place.line in
    let cells = take (margin_of still.wide row.size) row.cells in
    let left = length cells - suffix_len is_space cells in
    let count : length (map read cells) - suffix_len (λ c. nat_eq c 32) (map read cells) ≡ left = omega (arith, length-map cells read, spaces_in cells) in
    let found : found_rows len still place ≡ map read (trimmed cells) =
    ap (λ rows. take (length rows - suffix_len (λ c. nat_eq c 32) rows) rows) (one_row still place len whole is fits)
    ∙ ap (λ n. take n (map read cells)) count ∙ take-map read left cells in
    ap (λ l. l ++ 10 ∷ []) (sym (ap (flat_map encode_utf8) found ∙ flat_map-map encode_utf8 read (trimmed cells)))
