-- Rows in which a text begins nowhere, told by the glyphs of three cells side by side.
use Rattle.std.proofs.Common.{◌≡◌, ℕ, ◌+◌, ◌*◌, ◌%◌, ◌-◌, ◌<◌, ◌≤◌, Bool, true, false, List, ◌++◌, length, get_or, take, drop, nat_eq, nat_lt, refl, ap, sym, ◌∙◌, subst, arith, ◌||◌, ◌&&◌, inl, inr, ◌⊎◌, slice_index}
use Rattle.std.specs.Int.Bits.{bit_and}
use Rattle.std.specs.List.{AllPass, starts_with}
use Rattle.std.proofs.lemmas.Bool.{cases_lt, eq-eqb, false≢true, le-ltb, lt-ltb}
use Rattle.std.proofs.lemmas.List.{drop-append-le, drop-map, get_or_default, get_or-drop, get_or-take, length-drop, length-map, length-take, take_all}
use Rattle.std.proofs.lemmas.List.Elements.{All-get_or}
use Rattle.std.proofs.lemmas.Nat.{and_mask}
use Rattle.std.proofs.lemmas.List.Sums.{AllPass-from_list_all}
use Rattle.vt_screen.specs.declared.cell.Cell.{Cell}
use Rattle.vt_screen.specs.declared.cell.Row.{Row}
use Rattle.vt_screen.specs.Attributes.{byte_of}
use Rattle.vt_screen.specs.Cells.{blank}
use Rattle.vt_screen.specs.Picture.{margin_of}
use Rattle.screen_print.specs.declared.start.Start.{Start}
use Rattle.screen_print.specs.declared.start.Wanted.{Wanted}
use Rattle.screen_rows.specs.RowText.{row_text, characters}
use Rattle.screen_rows.specs.Glyphs.{character, special_graphics}
use Rattle.screen_print.specs.FindLines.{begins}
use Rattle.screen_print.specs.Quiet.{BeginsUpTo}
use Rattle.screen_print.specs.Start.{IsStart, Wants, fits, starts_at, starts_at_end}
use Rattle.screen_print.proofs.QuietLemmas.{differs_at}

-- ---- what is wanted

out_of : (c : ℕ) → 33 ≤ c → c < 127 → (nat_lt c 33 || nat_lt 126 c) ≡ true → ⊥
out_of c low high out =
    let no : nat_lt c 33 ≡ false = le-ltb c 33 low in
    let nor : nat_lt 126 c ≡ false = le-ltb 126 c (omega arith) in
    false≢true (sym (rw (no, nor) refl) ∙ out)

-- a character of ASCII behind the space is shown by one glyph
pub graphic : (glyph c : ℕ) → 33 ≤ c → c < 127 → character glyph ≡ c → glyph ≡ c
graphic glyph c low high is = elim (cases_lt glyph 32) [
  | inl lt ↦
      let special : slice_index special_graphics glyph ≡ c = rw (lt-ltb glyph 32 lt) at is in
      let all : AllPass (λ x. nat_lt x 33 || nat_lt 126 x) special_graphics =
      AllPass-from_list_all (λ x. nat_lt x 33 || nat_lt 126 x) special_graphics refl in
      let out : (nat_lt (slice_index special_graphics glyph) 33 || nat_lt 126 (slice_index special_graphics glyph)) ≡ true =
      All-get_or (λ x. (nat_lt x 33 || nat_lt 126 x) ≡ true) special_graphics glyph 0 lt all in
      absurd (out_of c low high (rw special at out))
  | inr ge ↦ rw (le-ltb glyph 32 ge) at is
]

-- a cell that shows a character of ASCII behind the space has its number
pub shown_fits : (cell : Cell) (c : ℕ) → 33 ≤ c → c < 127 → character cell.glyph ≡ c → fits (record { mask = 255; bits = c }) cell ≡ true
shown_fits cell c low high shown =
    let glyph = graphic cell.glyph c low high shown in
    let n = 256 * byte_of cell.rendition + cell.glyph in
    let rest : n % 256 ≡ c = omega (arith, glyph) in
    eq-eqb (bit_and n 255) c (and_mask n 8 ∙ rest)

-- ---- three cells

one_fails : (a b c : Bool) → ((a && b) && c) ≡ false → (a ≡ false) ⊎ ((b ≡ false) ⊎ (c ≡ false))
one_fails false b c h = inl refl
one_fails true false c h = inr (inl refl)
one_fails true true c h = inr (inr h)

-- a cell that hasn't what is wanted
unfit : (text : List ℕ) (cells all : List Cell) (m at place : ℕ) (rest : List ℕ) (wanted : Wanted) → cells ≡ take m all → at + place < length cells
    → Wants text place wanted → fits wanted (get_or all (at + place) blank) ≡ false → starts_with nat_eq (characters (drop at cells) ++ rest) text ≡ false
unfit text cells all m at place rest wanted are within wants fails =
    let says = wants (get_or all (at + place) blank) fails in
    let front : at + place < m = omega (arith, ap length are, length-take m all) in
    let cell : get_or (drop at cells) place blank ≡ get_or all (at + place) blank =
    get_or-drop at cells place blank ∙ ap (λ l. get_or l (at + place) blank) are ∙ get_or-take m all (at + place) blank front in
    differs_at text (drop at cells) rest place blank 0 says.0 (omega (arith, length-drop at cells))
    (λ shown. says.1 (ap (λ (c : Cell). character c.glyph) (sym cell) ∙ shown))

-- a cell that hasn't what the first character wants
pub first_not : (text : List ℕ) (start : Start) (cells : List Cell) (at : ℕ) (d : Cell) (rest : List ℕ) → IsStart text start → at < length cells
    → fits start.first (get_or cells at d) ≡ false → starts_with nat_eq (characters (take (length cells - at) (drop at cells)) ++ rest) text ≡ false
first_not text start cells at d rest is within fails =
    let n = length cells in
    let here : at + 0 ≡ at = omega arith in
    ap (λ l. starts_with nat_eq (characters l ++ rest) text) (take_all (n - at) (drop at cells) (omega (arith, length-drop at cells)))
    ∙ unfit text cells cells n at 0 rest start.first (sym (take_all n cells (omega arith))) (omega arith) is.first
    (ap (λ k. fits start.first (get_or cells k blank)) here ∙ ap (fits start.first) (get_or_default cells at blank d within) ∙ fails)

starts_not : (text : List ℕ) (start : Start) (cells all : List Cell) (m at : ℕ) (rest : List ℕ) → IsStart text start → cells ≡ take m all
    → at + 2 < length cells → starts_at start all at ≡ false → starts_with nat_eq (characters (drop at cells) ++ rest) text ≡ false
starts_not text start cells all m at rest is are within fails =
    let here : at + 0 ≡ at = omega arith in
    elim (one_fails (fits start.first (get_or all at blank)) (fits start.second (get_or all (at + 1) blank)) (fits start.third (get_or all (at + 2) blank)) fails) [
      | inl first ↦ unfit text cells all m at 0 rest start.first are (omega arith) is.first (ap (λ n. fits start.first (get_or all n blank)) here ∙ first)
      | inr (inl second) ↦ unfit text cells all m at 1 rest start.second are (omega arith) is.second second
      | inr (inr third) ↦ unfit text cells all m at 2 rest start.third are (omega arith) is.third third
    ]

-- the last two cells
neither : (a b : Bool) → (a || b) ≡ false → (a ≡ false) × (b ≡ false)
neither true b h = absurd (false≢true (sym h))
neither false b h = (refl, h)

one_or_other : (a b : Bool) → (a && b) ≡ false → (a ≡ false) ⊎ (b ≡ false)
one_or_other false b h = inl refl
one_or_other true b h = inr h

ends_not : (text : List ℕ) (start : Start) (cells : List Cell) (at : ℕ) (rest : List ℕ) → IsStart text start → length cells ≤ at + 2 → at < length cells
    → starts_at_end start cells ≡ false → starts_with nat_eq (characters (drop at cells) ++ rest) text ≡ false
ends_not text start cells at rest is near within fails =
    let n = length cells in
    let last = get_or cells (n - 1) blank in
    let before = get_or cells (n - 2) blank in
    let whole : cells ≡ take n cells = sym (take_all n cells (omega arith)) in
    let both = neither (fits start.first last) (fits start.first before && fits start.second last) fails in
    let here : at + 0 ≡ at = omega arith in
    elim (cases_lt (at + 1) n) [
      | inl more ↦
          let first_is : n - 2 ≡ at + 0 = omega arith in
          let second_is : n - 1 ≡ at + 1 = omega arith in
          elim (one_or_other (fits start.first before) (fits start.second last) both.1) [
            | inl first ↦ unfit text cells cells n at 0 rest start.first whole (omega arith) is.first (ap (λ k. fits start.first (get_or cells k blank)) (sym first_is) ∙ first)
            | inr second ↦ unfit text cells cells n at 1 rest start.second whole (omega arith) is.second (ap (λ k. fits start.second (get_or cells k blank)) (sym second_is) ∙ second)
          ]
      | inr end ↦
          let last_is : n - 1 ≡ at + 0 = omega arith in
          unfit text cells cells n at 0 rest start.first whole (omega arith) is.first (ap (λ k. fits start.first (get_or cells k blank)) (sym last_is) ∙ both.0)
    ]

-- a row in which a text starts nowhere
pub begins_nowhere : (text : List ℕ) (start : Start) (wide : Bool) (row : Row) (cells : List Cell) → IsStart text start
    → cells ≡ take (margin_of wide row.size) row.cells → characters cells ≡ row_text wide row
    → ((k : ℕ) → k + 2 < length (row_text wide row) → starts_at start row.cells k ≡ false)
    → starts_at_end start cells ≡ false → BeginsUpTo text 0 (row_text wide row)
begins_nowhere text start wide row cells is are same none ends =
    let read : Cell → ℕ = λ c. character c.glyph in
    let long : length cells ≡ length (row_text wide row) = sym (length-map cells read) ∙ ap length same in
    subst (BeginsUpTo text 0) same (λ rest column low high.
    let at = column - 1 in
    let within : at < length cells = omega (arith, length-map cells read) in
    let parts = drop-append-le at (characters cells) rest (omega (arith, length-map cells read)) ∙ ap (λ l. l ++ rest) (drop-map read at cells) in
    ap (λ l. starts_with nat_eq l text) parts
    ∙ elim (cases_lt (at + 2) (length cells)) [
      | inl more ↦ starts_not text start cells row.cells (margin_of wide row.size) at rest is are more (none at (omega (arith, long)))
      | inr near ↦ ends_not text start cells at rest is near within ends
    ])

-- a row in which no three cells show the first characters of a text: it begins nowhere with half of it, which is three or more
pub halves_nowhere : (text : List ℕ) (start : Start) (wide : Bool) (row : Row) (cells : List Cell) (half : ℕ) → IsStart text start → 3 ≤ half
    → cells ≡ take (margin_of wide row.size) row.cells → characters cells ≡ row_text wide row
    → ((k : ℕ) → k + 2 < length (row_text wide row) → starts_at start row.cells k ≡ false)
    → (rest : List ℕ) (column : ℕ) → column - 1 + half ≤ length (row_text wide row) → begins text (row_text wide row ++ rest) column ≡ false
halves_nowhere text start wide row cells half is three are same none rest column high =
    let at = column - 1 in
    let read : Cell → ℕ = λ c. character c.glyph in
    let long : length cells ≡ length (row_text wide row) = sym (length-map cells read) ∙ ap length same in
    let parts = drop-append-le at (characters cells) rest (omega (arith, length-map cells read)) ∙ ap (λ l. l ++ rest) (drop-map read at cells) in
    subst (λ l. begins text (l ++ rest) column ≡ false) same
    (ap (λ l. starts_with nat_eq l text) parts
    ∙ starts_not text start cells row.cells (margin_of wide row.size) at rest is are (omega (arith, high, long)) (none at (omega arith)))
