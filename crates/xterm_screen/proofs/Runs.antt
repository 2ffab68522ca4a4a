-- A run of characters on one line, written at once.
use Rattle.std.proofs.Common.{◌≡◌, ℕ, ◌+◌, ◌<◌, ◌≤◌, Bool, true, false, List, [], ◌∷◌, ◌++◌, get_or, length, min, take, drop, refl, sym, ap, ap₂, ◌∙◌, arith}
use Rattle.std.specs.Prelude.{if◌then◌else◌, ◌==◌, ◌&&◌, nat_lt}
use Rattle.std.proofs.lemmas.Bool.Decides.{nat_tests}
use Rattle.std.proofs.lemmas.Grind.{fold-append}
use Rattle.std.proofs.lemmas.List.{take-append-drop, take_more}
use Rattle.sheet.specs.Cells.{Cell}
use Rattle.sheet.specs.declared.rendition.Colour.{Colour}
use Rattle.sheet.specs.declared.rendition.Rendition.{Rendition}
use Rattle.sheet.specs.Edits.{put, run_put}
use Rattle.sheet.specs.Grid.{row_at, with_row}
use Rattle.xterm_screen.specs.Picture.{Picture}
use Rattle.xterm_screen.specs.Moves.{moved_to_left, on_line}
use Rattle.xterm_screen.specs.Scrolls.{indexed, lines_raised}
use Rattle.xterm_screen.specs.Puts.{next_line, wrap_taken, overhangs, line_found, made_ready, character_written, advanced, character_put, shown, run_shown}
use Rattle.xterm_screen.proofs.Tables.{length-table, row_put, with_row_same, with_row_twice}
use Rattle.xterm_screen.proofs.Soundness.{either_picture}

indexed_unwrapped : (paper : Colour) (p : Picture) → (indexed paper p).wrap ≡ false
indexed_unwrapped paper p =
    either_picture (λ q. q.wrap ≡ false) (p.line == p.bottom) (on_line p.line (lines_raised 1 p.top p.bottom paper p)) (on_line (min (p.line + 1) p.lines) p) refl refl

-- the wrap is taken once
wrap_gone : (paper : Colour) (p : Picture) → (wrap_taken paper p).wrap ≡ false
wrap_gone paper p = by_wrap p.wrap refl
  where
    by_wrap : (b : Bool) → p.wrap ≡ b → (if b then next_line paper p else p).wrap ≡ false
    by_wrap true e = indexed_unwrapped paper (moved_to_left p)
    by_wrap false e = e

-- the characters as one write from the cursor on
abbrev pub written_there : List ℕ → Rendition → Picture → List (List Cell)
written_there characters rendition p = with_row p.line (run_put p.column characters rendition (row_at p.rows p.line)) p.rows

module _ (rendition : Rendition) (autowrap : Bool) where
  -- outside a pending wrap a character of width 1 is put at once
  shown_unwrapped : (character : ℕ) (p : Picture) → p.wrap ≡ false
      → shown character false rendition autowrap false p ≡ advanced 1 autowrap (character_written character false rendition p)
  shown_unwrapped character p unwrapped =
      ap (λ (q : Picture). advanced 1 autowrap (character_written character false rendition q))
      (nowhere autowrap (wrap_taken rendition.paper p) ∙ ap (λ (b : Bool). if b then next_line rendition.paper p else p) unwrapped)
    where
      nowhere : (b : Bool) (q : Picture) → (if b && false then next_line rendition.paper q else q) ≡ q
      nowhere true q = refl
      nowhere false q = refl

  -- a picture with one character more, and the cursor on the next column
  abbrev next : ℕ → Picture → Picture
  next character p = record p { rows = with_row p.line (put p.column character false rendition (row_at p.rows p.line)) p.rows; column = p.column + 1 }

  shown_next : (character : ℕ) (p : Picture) → p.wrap ≡ false → p.column < p.columns → shown character false rendition autowrap false p ≡ next character p
  shown_next character p unwrapped before =
      shown_unwrapped character p unwrapped
      ∙ ap (λ (b : Bool). if b then record (character_written character false rendition p) { column = p.columns; wrap = autowrap } else next character p)
      (let e : nat_lt p.columns (p.column + 1) ≡ false = grind (arith, nat_tests) in e)

  shown_last : (character : ℕ) (p : Picture) → p.wrap ≡ false → p.column ≡ p.columns
      → shown character false rendition autowrap false p ≡ record p { rows = written_there (character ∷ []) rendition p; column = p.columns; wrap = autowrap }
  shown_last character p unwrapped there =
      shown_unwrapped character p unwrapped
      ∙ ap (λ (b : Bool). if b then record (character_written character false rendition p) { column = p.columns; wrap = autowrap } else next character p)
      (let e : nat_lt p.columns (p.column + 1) ≡ true = grind (arith, nat_tests) in e)

  -- the rows, once the next characters are written too
  rows_next : (character : ℕ) (characters : List ℕ) (p : Picture) → 1 ≤ p.line → p.line ≤ length p.rows
      → written_there characters rendition (next character p) ≡ written_there (character ∷ characters) rendition p
  rows_next character characters p low high =
      let row = put p.column character false rendition (row_at p.rows p.line) in
      ap (λ (r : List Cell). with_row p.line (run_put (p.column + 1) characters rendition r) (with_row p.line row p.rows)) (row_put p.line row p.rows low high)
      ∙ with_row_twice p.line (run_put (p.column + 1) characters rendition row) row p.rows

  count_next : (character : ℕ) (p : Picture) → length (next character p).rows ≡ length p.rows
  count_next character p = length-table (length p.rows) _

  -- all of them stand left of the last column
  pub run_within : (characters : List ℕ) (p : Picture) → p.wrap ≡ false → 1 ≤ p.line → p.line ≤ length p.rows
      → p.column + length characters ≤ p.columns
      → run_shown characters rendition autowrap false p ≡ record p { rows = written_there characters rendition p; column = p.column + length characters }
  run_within [] p unwrapped low high fits = ap₂ (λ (rows : List (List Cell)) (k : ℕ). record p { rows = rows; column = k }) (with_row_same p.line p.rows) (omega arith)
  run_within (character ∷ characters) p unwrapped low high fits =
      ap (run_shown characters rendition autowrap false) (shown_next character p unwrapped (omega arith))
      ∙ run_within characters (next character p) unwrapped low (omega (arith, count_next character p)) (omega arith)
      ∙ ap₂ (λ (rows : List (List Cell)) (k : ℕ). record p { rows = rows; column = k }) (rows_next character characters p low high) (omega arith)

  -- the last of them stands at the last column
  pub run_to_end : (characters : List ℕ) (p : Picture) → p.wrap ≡ false → 1 ≤ p.line → p.line ≤ length p.rows → 0 < length characters
      → p.column + length characters ≡ p.columns + 1
      → run_shown characters rendition autowrap false p ≡ record p { rows = written_there characters rendition p; column = p.columns; wrap = autowrap }
  run_to_end [] p unwrapped low high some fits = absurd (omega arith)
  run_to_end (character ∷ []) p unwrapped low high some fits = shown_last character p unwrapped (omega arith)
  run_to_end (character ∷ other ∷ characters) p unwrapped low high some fits =
      ap (run_shown (other ∷ characters) rendition autowrap false) (shown_next character p unwrapped (omega arith))
      ∙ run_to_end (other ∷ characters) (next character p) unwrapped low (omega (arith, count_next character p)) (omega arith) (omega arith)
      ∙ ap (λ (rows : List (List Cell)). record p { rows = rows; column = p.columns; wrap = autowrap }) (rows_next character (other ∷ characters) p low high)

  module _ (inserting : Bool) where
    -- a joined run is its parts one after another
    pub run_joined : (xs ys : List ℕ) (p : Picture)
        → run_shown (xs ++ ys) rendition autowrap inserting p ≡ run_shown ys rendition autowrap inserting (run_shown xs rendition autowrap inserting p)
    run_joined xs ys p = fold-append (λ q character. shown character false rendition autowrap inserting q) p xs ys

    -- one character more of a run
    pub run_more : (characters : List ℕ) (i character : ℕ) (p now new : Picture) → i < length characters → character ≡ get_or characters i 0
        → now ≡ run_shown (take i characters) rendition autowrap inserting p
        → new ≡ shown character false rendition autowrap inserting now
        → new ≡ run_shown (take (i + 1) characters) rendition autowrap inserting p
    run_more characters i character p now new below same so_far is_shown =
        is_shown
        ∙ ap₂ (λ (k : ℕ) (q : Picture). shown k false rendition autowrap inserting q) same so_far
        ∙ sym (run_joined (take i characters) (get_or characters i 0 ∷ []) p)
        ∙ ap (λ (cs : List ℕ). run_shown cs rendition autowrap inserting p) (sym (take_more characters i 0 below))

    pub run_parts : (n : ℕ) (characters : List ℕ) (p : Picture)
        → run_shown (drop n characters) rendition autowrap inserting (run_shown (take n characters) rendition autowrap inserting p)
        ≡ run_shown characters rendition autowrap inserting p
    run_parts n characters p =
        sym (run_joined (take n characters) (drop n characters) p)
        ∙ ap (λ cs. run_shown cs rendition autowrap inserting p) (take-append-drop n characters)

    -- a run may begin with the wrap taken
    pub run_wrapped : (characters : List ℕ) (p : Picture) → 0 < length characters
        → run_shown characters rendition autowrap inserting (wrap_taken rendition.paper p) ≡ run_shown characters rendition autowrap inserting p
    run_wrapped [] p some = absurd (omega arith)
    run_wrapped (character ∷ characters) p some =
        ap (λ (q : Picture). run_shown characters rendition autowrap inserting (character_put character false rendition autowrap inserting (line_found false autowrap rendition.paper q)))
        (ap (λ (b : Bool). if b then next_line rendition.paper (wrap_taken rendition.paper p) else wrap_taken rendition.paper p) (wrap_gone rendition.paper p))

    -- a loop's step: the wrap, a part, and what is left
    pub run_step : (n : ℕ) (characters : List ℕ) (p now : Picture) → 0 < length characters
        → now ≡ run_shown (take n characters) rendition autowrap inserting (wrap_taken rendition.paper p)
        → run_shown (drop n characters) rendition autowrap inserting now ≡ run_shown characters rendition autowrap inserting p
    run_step n characters p now some written =
        ap (run_shown (drop n characters) rendition autowrap inserting) written ∙ run_parts n characters (wrap_taken rendition.paper p) ∙ run_wrapped characters p some

-- the wrap is gone once it is taken
pub taken_unwrapped : (paper : Colour) (p q : Picture) → q ≡ wrap_taken paper p → q.wrap ≡ false
taken_unwrapped paper p q same = ap (λ (r : Picture). r.wrap) same ∙ wrap_gone paper p

-- a character that has room once the screen was made ready
pub shown_put : (character : ℕ) (wide : Bool) (rendition : Rendition) (autowrap inserting : Bool) (p q new : Picture)
    → q ≡ made_ready wide autowrap rendition.paper p → overhangs wide q ≡ false → new ≡ character_put character wide rendition autowrap inserting q
    → new ≡ shown character wide rendition autowrap inserting p
shown_put character wide rendition autowrap inserting p q new same fits is_put =
    let made = made_ready wide autowrap rendition.paper p in
    is_put
    ∙ ap (character_put character wide rendition autowrap inserting) same
    ∙ sym (ap (λ (b : Bool). if b then made else character_put character wide rendition autowrap inserting made) (ap (overhangs wide) (sym same) ∙ fits))
