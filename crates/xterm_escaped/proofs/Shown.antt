-- What a character puts on a console that draws.
use Rattle.std.proofs.Common.{◌≡◌, ℕ, ◌+◌, ◌-◌, ◌≤◌, Bool, true, false, List, min, refl, sym, ap, ap₂, inl, inr, ◌∙◌, arith}
use Rattle.std.specs.Prelude.{if◌then◌else◌, ◌==◌, ◌&&◌, nat_lt, Option, Some, None}
use Rattle.std.proofs.lemmas.Bool.{cases_eq}
use Rattle.std.proofs.lemmas.Bool.Decides.{nat_tests}
use Rattle.characters.specs.Width.{width}
use Rattle.sheet.specs.declared.rendition.Colour.{Colour}
use Rattle.sheet.specs.declared.rendition.Rendition.{Rendition}
use Rattle.sheet.specs.Cells.{Cell}
use Rattle.sheet.specs.Edits.{mark_added, put as letter_put}
use Rattle.sheet.specs.Grid.{row_at, with_row}
use Rattle.xterm_screen.specs.Picture.{Picture}
use Rattle.xterm_screen.specs.Puts.{advanced, character_put, character_written, is_dropped, line_found, made_ready, mark_column, mark_joined, next_line, overhangs, room_made, shown, width as columns_of}
use Rattle.xterm_term.specs.Console.{Console, first_modes, reset_console}
use Rattle.xterm_term.specs.Puts.{is_c1, put, shown_with}
use Rattle.xterm_escaped.proofs.Led.{ended}

-- where lines are drawn: a reset console, with the reversed flag
abbrev pub canvas : ℕ → ℕ → Bool → Console
canvas columns lines reversed = record (reset_console columns lines) { modes = record first_modes { reverse_screen = reversed } }

-- the same with some rows, a cursor, a wrap that may be pending, and a rendition
abbrev pub drawing : Console → List (List Cell) → ℕ → ℕ → Bool → Rendition → Console
drawing c rows line column wrap rendition = record c {
  picture = record c.picture { rows = rows; line = line; column = column; wrap = wrap };
  rendition = rendition;
}

-- where the cursor is behind a column
abbrev pub behind_of : Console → List (List Cell) → ℕ → ℕ → Rendition → Console
behind_of c rows line last rendition = drawing c rows line (min c.picture.columns (last + 1)) (last == c.picture.columns) rendition

-- characters wrap there, and take the place of what stands there
pub record IsCanvas (c : Console) : Type 0 where
  pub autowrap : c.modes.autowrap ≡ true
  pub insert : c.modes.insert ≡ false

-- one with room for it is written
module _ (wide : Bool) (p : Picture) (unwrapped : p.wrap ≡ false) (over : overhangs wide p ≡ false) where
  pub found : (autowrap : Bool) (paper : Colour) → line_found wide autowrap paper p ≡ p
  found true paper = ap (λ b. if b then next_line paper p else p) over
  found false paper = refl

  pub ready : (autowrap : Bool) (paper : Colour) → made_ready wide autowrap paper p ≡ p
  ready autowrap paper =
      ap (line_found wide autowrap paper) (ap (λ b. if b then next_line paper p else p) unwrapped) ∙ found autowrap paper

  pub shown_is : (character : ℕ) (rendition : Rendition) (autowrap inserting : Bool) → inserting ≡ false
      → shown character wide rendition autowrap inserting p ≡ advanced (columns_of wide) autowrap (character_written character wide rendition p)
  shown_is character rendition autowrap inserting replaces =
      ap (λ q. if overhangs wide q then q else character_put character wide rendition autowrap inserting q) (ready autowrap rendition.paper)
      ∙ ap (λ b. if b then p else character_put character wide rendition autowrap inserting p) over
      ∙ ap (λ b. advanced (columns_of wide) autowrap (character_written character wide rendition (room_made b wide rendition.paper p))) replaces

  pub not_dropped : (autowrap : Bool) (paper : Colour) → is_dropped wide autowrap paper p ≡ false
  not_dropped autowrap paper = ap (overhangs wide) (ready autowrap paper) ∙ over

shown_there : (character : ℕ) (wide : Bool) (s : Console) → s.picture.wrap ≡ false → s.modes.insert ≡ false → overhangs wide s.picture ≡ false
    → shown_with wide character s
    ≡ record s { picture = advanced (columns_of wide) s.modes.autowrap (character_written character wide s.rendition s.picture); last = Some character }
shown_there character wide s wrap insert over =
    ap₂ (λ (p : Picture) (b : Bool). let u : Console = record s { picture = p; last = (if b then None else Some character) } in u)
    (shown_is wide s.picture wrap over character s.rendition s.modes.autowrap s.modes.insert insert)
    (not_dropped wide s.picture wrap over s.modes.autowrap s.rendition.paper)

pub room : (wide : Bool) (column columns : ℕ) → column + columns_of wide ≤ columns + 1 → (wide && (column == columns)) ≡ false
room true column columns fits = grind (arith, nat_tests)
room false column columns fits = refl

pub by_columns : (wide : Bool) (character : ℕ) (s : Console) → is_c1 character ≡ false → width character ≡ columns_of wide → put character s ≡ shown_with wide character s
unfolding put
by_columns true character s no_c1 is = simp (no_c1, is)
by_columns false character s no_c1 is = simp (no_c1, is)

ap₃' : (p : Picture) {column other : ℕ} {wrap instead : Bool} → column ≡ other → wrap ≡ instead
    → (let q : Picture = record p { column = column; wrap = wrap } in q) ≡ record p { column = other; wrap = instead }
ap₃' p a b = cc

advanced_behind : (by last : ℕ) (p : Picture) → p.wrap ≡ false → p.column + by ≡ last + 1 → last ≤ p.columns
    → advanced by true p ≡ record p { column = min p.columns (last + 1); wrap = (last == p.columns) }
advanced_behind by last p wrap next within = elim (cases_eq last p.columns) [
  | inl e ↦
      (let past : nat_lt p.columns (p.column + by) ≡ true = grind (arith, nat_tests) in
      let same : (last == p.columns) ≡ true = grind (arith, nat_tests) in
      ap (λ b. if b then record p { column = p.columns; wrap = true } else record p { column = p.column + by }) past
      ∙ ap₃' p (omega arith) (sym same))
  | inr ne ↦
      (let inside : nat_lt p.columns (p.column + by) ≡ false = grind (arith, nat_tests) in
      let apart : (last == p.columns) ≡ false = grind (arith, nat_tests) in
      ap (λ b. if b then record p { column = p.columns; wrap = true } else record p { column = p.column + by }) inside
      ∙ ap₃' p (omega arith) (wrap ∙ sym apart))
]

pub letter_shown : (c : Console) (rows : List (List Cell)) (line at last : ℕ) (rendition : Rendition) (character : ℕ) (wide : Bool) (l : Option ℕ)
    → IsCanvas c → is_c1 character ≡ false → width character ≡ columns_of wide → at + columns_of wide ≡ last + 1 → last ≤ c.picture.columns
    → put character (ended l (drawing c rows line at false rendition))
    ≡ ended (Some character) (behind_of c (with_row line (letter_put at character wide rendition (row_at rows line)) rows) line last rendition)
letter_shown c rows line at last rendition character wide l is no_c1 width_is next within =
    let s : Console = ended l (drawing c rows line at false rendition) in
    let t : Console = ended (Some character) s in
    by_columns wide character s no_c1 width_is
    ∙ shown_there character wide s refl is.insert (room wide at c.picture.columns (omega arith))
    ∙ ap (λ b. let u : Console = record t { picture = advanced (columns_of wide) b (character_written character wide rendition s.picture) } in u) is.autowrap
    ∙ ap (λ p. let u : Console = record t { picture = p } in u)
    (advanced_behind (columns_of wide) last (character_written character wide rendition s.picture) refl next within)

-- ---- a mark

pub by_none : (mark : ℕ) (s : Console) → is_c1 mark ≡ false → width mark ≡ 0 → put mark s ≡ record s { picture = mark_joined mark s.picture }
unfolding put
by_none mark s no_c1 none = simp (no_c1, none)

pub mark_shown : (c : Console) (rows : List (List Cell)) (line last : ℕ) (rendition : Rendition) (mark : ℕ) (l : Option ℕ)
    → is_c1 mark ≡ false → width mark ≡ 0 → 1 ≤ last → last ≤ c.picture.columns
    → put mark (ended l (behind_of c rows line last rendition))
    ≡ ended l (behind_of c (with_row line (mark_added last mark (row_at rows line)) rows) line last rendition)
mark_shown c rows line last rendition mark l no_c1 none low within =
    let s : Console = ended l (behind_of c rows line last rendition) in
    by_none mark s no_c1 none ∙ ap (λ p. let u : Console = record s { picture = p } in u) (joined s.picture column_is low)
  where
    column_is : mark_column (behind_of c rows line last rendition).picture ≡ last
    column_is = elim (cases_eq last c.picture.columns) [
      | inl e ↦ (let same : (last == c.picture.columns) ≡ true = grind (arith, nat_tests) in
          ap (λ b. if b then min c.picture.columns (last + 1) else min c.picture.columns (last + 1) - 1) same ∙ omega arith)
      | inr ne ↦ (let apart : (last == c.picture.columns) ≡ false = grind (arith, nat_tests) in
          ap (λ b. if b then min c.picture.columns (last + 1) else min c.picture.columns (last + 1) - 1) apart ∙ omega arith)
    ]

    joined : (p : Picture) → mark_column p ≡ last → 1 ≤ last
        → mark_joined mark p ≡ record p { rows = with_row p.line (mark_added last mark (row_at p.rows p.line)) p.rows }
    joined p is some =
        let there : (mark_column p == 0) ≡ false = grind (arith, nat_tests) in
        ap (λ b. if b then p else record p { rows = with_row p.line (mark_added (mark_column p) mark (row_at p.rows p.line)) p.rows }) there
        ∙ ap (λ k. let q : Picture = record p { rows = with_row p.line (mark_added k mark (row_at p.rows p.line)) p.rows } in q) is
