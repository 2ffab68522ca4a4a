-- Texts that run on from row to row.
use Rattle.std.proofs.Common.{◌≡◌, ℕ, ◌-◌, ◌<◌, ◌≤◌, Bool, true, false, List, [], ◌∷◌, ◌++◌, length, get_or, take, drop, nat_eq, refl, ap, sym, ◌∙◌, arith, append-nil, cond, inl, inr}
use Rattle.std.specs.List.{starts_with}
use Rattle.std.proofs.lemmas.Bool.{cases_Bool, eq-eqb, false≢true}
use Rattle.std.proofs.lemmas.Bool.Decides.{Decides-eqb}
use Rattle.std.proofs.lemmas.Slice.Eq.{slice_eq-Decides}
use Rattle.std.proofs.lemmas.List.{drop-append-le, drop-map, length-drop, length-map, length-take, take_rest}
use Rattle.vt_screen.specs.declared.cell.Cell.{Cell}
use Rattle.vt_screen.specs.Cells.{row_at}
use Rattle.screen_print.specs.FindLines.{ends_line, line_text_from, row_texts}
use Rattle.screen_rows.specs.RowText.{row_text, characters}
use Rattle.screen_rows.specs.Glyphs.{character}
use Rattle.screen_print.specs.Stills.{Still}
use Rattle.screen_print.proofs.FindLemmas.{no_texts, texts_at}
use Rattle.screen_print.proofs.QuietLemmas.{line_is}

-- a text longer than what is there
pub too_long : (line text : List ℕ) → length line < length text → starts_with nat_eq line text ≡ false
too_long line text short =
    let decided = slice_eq-Decides Decides-eqb text (take (length text) line) (starts_with nat_eq line text) refl in
    elim (cases_Bool (starts_with nat_eq line text)) [
      | inl t ↦ absurd (omega (arith, ap length (decided.0 t), length-take (length text) line, short))
      | inr f ↦ f
    ]

-- a text that begins with a part goes on behind it
pub goes_on : (part rest text : List ℕ) → part ≡ take (length part) text → starts_with nat_eq (part ++ rest) text ≡ starts_with nat_eq rest (drop (length part) text)
goes_on [] rest text same = refl
goes_on (x ∷ part) rest [] same = absurd (omega (arith, ap length same))
goes_on (x ∷ part) rest (y ∷ text) same =
    let first : nat_eq y x ≡ true = eq-eqb y x (sym (ap (λ (l : List ℕ). get_or l 0 0) same)) in
    rw first (goes_on part rest text (ap (drop 1) same))

-- what is left of a line from a column of its row on
pub rest_of : (still : Still) (at from : ℕ) (cells : List Cell) → length still.rows ≡ 24 → 1 ≤ at → at ≤ 24 → from ≤ length cells
    → characters cells ≡ row_text still.wide (row_at still.rows at)
    → drop from (line_text_from (drop (at - 1) (row_texts still)))
    ≡ characters (take (length cells - from) (drop from cells)) ++ cond (ends_line (characters cells)) [] (line_text_from (drop at (row_texts still)))
rest_of still at from cells whole low high fits same =
    let read : Cell → ℕ = λ cell. character cell.glyph in
    let rows = drop at (row_texts still) in
    let behind = cond (ends_line (characters cells)) [] (line_text_from rows) in
    ap (λ l. drop from (line_text_from l)) (texts_at still at whole low high)
    ∙ ap (λ row. drop from (line_text_from (row ∷ rows))) (sym same)
    ∙ ap (drop from) (line_is (characters cells) rows)
    ∙ drop-append-le from (characters cells) behind (omega (arith, length-map cells read))
    ∙ ap (λ l. l ++ behind) (drop-map read from cells ∙ ap characters (sym (take_rest cells from)))

-- so a text is looked for in the cells of that row and in the rows behind it
pub row_told : (still : Still) (at from : ℕ) (rest : List ℕ) (cells : List Cell) (found : Bool) → length still.rows ≡ 24 → 1 ≤ at → at ≤ 24
    → from ≤ length (row_text still.wide (row_at still.rows at)) → characters cells ≡ row_text still.wide (row_at still.rows at)
    → starts_with nat_eq (drop from (line_text_from (drop (at - 1) (row_texts still)))) rest ≡ found
    → starts_with nat_eq (characters (take (length cells - from) (drop from cells)) ++ cond (ends_line (characters cells)) [] (line_text_from (drop at (row_texts still)))) rest ≡ found
row_told still at from rest cells found whole low high fits same told =
    let inside : from ≤ length cells = omega (arith, fits, ap length same, length-map cells (λ (cell : Cell). character cell.glyph)) in
    ap (λ l. starts_with nat_eq l rest) (sym (rest_of still at from cells whole low high inside same)) ∙ told

-- where the row ends its line, or runs on
pub stops : (part : List Cell) (rest : List ℕ) (ends : Bool) (more : List ℕ) → ends ≡ true → length part < length rest
    → starts_with nat_eq (characters part ++ cond ends [] more) rest ≡ false
stops part rest true more e short =
    too_long (characters part ++ []) rest (omega (arith, ap length (append-nil (characters part)), length-map part (λ (cell : Cell). character cell.glyph), short))
stops part rest false more e short = absurd (false≢true e)

pub goes : (part : List Cell) (rest : List ℕ) (ends : Bool) (more : List ℕ) → ends ≡ false → characters part ≡ take (length part) rest
    → starts_with nat_eq (characters part ++ cond ends [] more) rest ≡ starts_with nat_eq more (drop (length part) rest)
goes part rest true more e front = absurd (false≢true (sym e))
goes part rest false more e front =
    let long = length-map part (λ (cell : Cell). character cell.glyph) in
    goes_on (characters part) more rest (front ∙ ap (λ n. take n rest) (sym long)) ∙ ap (λ n. starts_with nat_eq more (drop n rest)) long

-- behind the last row
pub nothing_left : (still : Still) (at from : ℕ) (rest : List ℕ) → length still.rows ≡ 24 → 24 < at → 1 ≤ length rest
    → starts_with nat_eq (drop from (line_text_from (drop (at - 1) (row_texts still)))) rest ≡ false
unfolding line_text_from
nothing_left still at from rest whole past some =
    let line = line_text_from (drop (at - 1) (row_texts still)) in
    let empty : line ≡ [] = ap line_text_from (no_texts still (at - 1) whole (omega arith)) in
    too_long (drop from line) rest (omega (arith, length-drop from line, ap length empty, some))
