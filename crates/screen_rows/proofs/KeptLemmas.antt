-- Rows that are kept by slots.
use Rattle.std.proofs.Common.{◌≡◌, ◌≢◌, ℕ, zero, suc, ◌-◌, ◌<◌, ◌≤◌, false, List, length, get_or, set, replicate, get_or-set_same, get_or-set_other, refl, ap, sym, subst, ◌∙◌, arith}
use Rattle.vt_screen.specs.declared.cell.Row.{Row}
use Rattle.vt_screen.specs.Cells.{blank_row, row_at, rows_by}
use Rattle.vt_screen.specs.Picture.{SoundRow}
use Rattle.vt_screen.specs.Slots.{ScreenState, row_in, slot_at}
use Rattle.vt_screen.specs.Table.{nth}
use Rattle.vt_screen.proofs.SoundRows.{sound_blank, sound_rows_by}
use Rattle.vt_screen.proofs.Tables.{nth_is, nth-table, table_ext, table_is}
use Rattle.screen_rows.specs.KeptRows.{IsFrom, Kept}

-- the row of a line lies in its slot
pub kept_row : (slots : List Row) (order : List ℕ) (line : ℕ) → 1 ≤ line → line ≤ 24
    → row_at (rows_by (λ l. row_in slots (slot_at order l))) line ≡ row_in slots (slot_at order line)
kept_row slots order line low high = nth-table blank_row 24 (λ l. row_in slots (slot_at order l)) line low high

-- rows that lie in the slots of their lines
pub rows_caught : (slots : List Row) (order names : List ℕ) (rows : List Row) → length rows ≡ 24
    → ((line : ℕ) → 1 ≤ line → line ≤ 24 → slot_at order line ≡ slot_at names line)
    → ((line : ℕ) → 1 ≤ line → line ≤ 24 → row_in slots (slot_at names line) ≡ row_at rows line)
    → rows_by (λ l. row_in slots (slot_at order l)) ≡ rows
rows_caught slots order names rows whole named caught =
    table_ext 24 (λ l. row_in slots (slot_at order l)) (nth blank_row rows)
    (λ l low high. ap (row_in slots) (named l low high) ∙ caught l low high)
    ∙ sym (table_is blank_row 24 rows whole)

-- a row that is written to a slot
pub written_here : (slots : List Row) (slot name : ℕ) (row : Row) → slot < length slots → slot ≡ name → row_in (set slots slot row) name ≡ row
written_here slots slot name row within is =
    ap (row_in (set slots slot row)) (sym is) ∙ get_or-set_same slots slot row blank_row within

pub written_there : (slots : List Row) (slot name : ℕ) (row : Row) → name ≢ slot → row_in (set slots slot row) name ≡ row_in slots name
written_there slots slot name row apart = get_or-set_other slots slot name row blank_row apart

-- a number that is written at a line
pub number_here : (numbers : List ℕ) (line number : ℕ) → 1 ≤ line → line ≤ length numbers → nth 0 (set numbers (line - 1) number) line ≡ number
number_here numbers line number low high =
    let within : line - 1 < length numbers = omega arith in
    nth_is 0 (set numbers (line - 1) number) line ∙ get_or-set_same numbers (line - 1) number 0 within

pub number_there : (numbers : List ℕ) (line k number : ℕ) → 1 ≤ line → 1 ≤ k → k ≢ line → nth 0 (set numbers (line - 1) number) k ≡ nth 0 numbers k
number_there numbers line k number low here other =
    let apart : k - 1 ≢ line - 1 = omega arith in
    nth_is 0 (set numbers (line - 1) number) k ∙ get_or-set_other numbers (line - 1) (k - 1) number 0 apart ∙ sym (nth_is 0 numbers k)

-- what is the same in each place
in_same : {X : Type 0} (n i : ℕ) (x : X) → get_or (replicate n x) i x ≡ x
in_same zero i x = refl
in_same (suc n) zero x = refl
in_same (suc n) (suc i) x = in_same n i x

pub zeros : (n k : ℕ) → slot_at (replicate n 0) k ≡ 0
zeros n k =
    let none : ℕ = 0 in
    nth_is none (replicate n none) k ∙ in_same n (k - 1) none

-- blank rows are sound, in whatever order
pub sound_blanks : (n line : ℕ) (order : List ℕ) → SoundRow false (row_at (rows_by (λ l. row_in (replicate n blank_row) (slot_at order l))) line)
sound_blanks n line order =
    sound_rows_by false (λ l. row_in (replicate n blank_row) (slot_at order l))
    (λ l low high. subst (SoundRow false) (sym (in_same n (slot_at order l) blank_row)) (sound_blank false)) line

-- of a line of which nothing is known
pub from_nothing : (kept : Kept) (s : ScreenState) (line source : ℕ) → source ≡ 0 → IsFrom kept s line source
from_nothing kept s line source none = record {
  high = omega arith;
  slot = λ some. absurd (omega arith);
  row = λ some. absurd (omega arith);
}
