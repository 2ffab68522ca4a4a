-- Characters that are written over blank cells: a key comes to stand there only by its last two characters side by side.
use Rattle.std.proofs.Common.{◌≡◌, ◌≢◌, ◌⊎◌, ℕ, zero, suc, ◌+◌, ◌-◌, ◌<◌, ◌≤◌, Bool, true, false, ◌==◌, ◌&&◌, List, [], ◌∷◌, ◌++◌, drop, get_or, length, map, nat_eq, nat_le, set, take, refl, ap, sym, ◌∙◌, subst, arith, inl, inr, if◌then◌else◌}
use Rattle.std.specs.Cmp.Lexicographic.{pointwise}
use Rattle.std.proofs.lemmas.Bool.{and_from, and_parts, both_ways, cases_Bool, cases_eq, cases_lt, eqb-true, ne_eqb, eq-eqb, leb-true, le-leb, lt-leb, or_left, or_right}
use Rattle.std.proofs.lemmas.List.{append_assoc, drop-append-le, drop_more, get_or-map, get_or-set_other, get_or-set_same, get_or-take, get_or-drop, length-drop, length-map, length-set, length-take, set_split, take-map, take-take}
use Rattle.std.proofs.lemmas.List.Sums.{prefix_len-le-length}
use Rattle.std.proofs.Math.Seq.{split_at}
use Rattle.vt_screen.specs.declared.cell.Cell.{Cell}
use Rattle.vt_screen.specs.declared.cell.Row.{Row}
use Rattle.vt_screen.specs.Attributes.{Attributes}
use Rattle.vt_screen.specs.Cells.{blank, blank as blank_cell, cell_at, row_at, row_by}
use Rattle.vt_screen.specs.Picture.{Picture, margin_of, right_margin}
use Rattle.vt_screen.specs.Puts.{run_shown, shown, with_cell, with_row}
use Rattle.vt_screen.specs.Table.{table}
use Rattle.screen_rows.specs.Glyphs.{character}
use Rattle.screen_rows.specs.RowText.{row_text}
use Rattle.screen_print.specs.FindLines.{begins}
use Rattle.std.specs.List.{All, list_all, prefix_len, starts_with}
use Rattle.vt_parser.specs.Syntax.{is_graphic}
use Rattle.screen_print.specs.declared.key.Ending.{Ending}
use Rattle.screen_print.specs.Skim.{IsEnding, IsFree, IsKey, IsPlain, Misses, RowLacks, ScreenLacks, is_in, is_pair}
use Rattle.vt_screen.specs.Picture.{Sound}
use Rattle.vt_term.specs.declared.sets.CharacterSet.{CharacterSet}
use Rattle.vt_term.specs.declared.sets.CharacterSet.TheVariants.{Ascii, Uk, SpecialGraphics}
use Rattle.vt_term.specs.Sets.{glyph_of, set_in_use}
use Rattle.vt_term.specs.Console.{Console, IsSafe}
use Rattle.vt_term.specs.Effect.{glyph_for, glyphs_written}
use Rattle.vt_term.specs.Law.{PlaysInParts}
use Rattle.vt_term.specs.Printing.{CharactersBring, GlyphsAreWritten, on_ground}
use Rattle.vt_term.specs.Term.{Term, play}
use Rattle.screen_print.proofs.SkimEffects.{Lasts, running_lasts}
use Rattle.screen_print.proofs.SkimLemmas.{play_on}
use Rattle.screen_print.proofs.StartLemmas.{graphic}
use Rattle.screen_print.proofs.SkimRows.{get_or-table, length-table, nth_next, put_rows, row_changed, row_told}

-- ---- lists

-- a list ends in these two
abbrev pub EndsIn : List ℕ → ℕ → ℕ → Type 0
EndsIn [] near last = Unit {0}
EndsIn (c ∷ []) near last = c ≡ last
EndsIn (c ∷ d ∷ []) near last = (c ≡ near) × (d ≡ last)
EndsIn (c ∷ d ∷ e ∷ rest) near last = EndsIn (d ∷ e ∷ rest) near last

inked_rest : (c : ℕ) (w : List ℕ) → is_in (c ∷ w) 32 ≡ false → is_in w 32 ≡ false
inked_rest c w f = elim (cases_Bool (is_in w 32)) [
  | inl t ↦ absurd (both_ways (is_in (c ∷ w) 32) f (or_right (nat_eq c 32) (is_in w 32) t))
  | inr g ↦ g
]

-- a character is written behind some others, and before a space: no key stands there that didn't before
over : (w front tail : List ℕ) (new old near last before : ℕ) → EndsIn w near last → is_in w 32 ≡ false → 2 ≤ length w + length front
    → (1 ≤ length front → get_or front (length front - 1) 0 ≡ before) → (before ≢ near) ⊎ (new ≢ last)
    → pointwise nat_eq w (take (length w) (front ++ new ∷ 32 ∷ tail)) ≡ true → pointwise nat_eq w (take (length w) (front ++ old ∷ 32 ∷ tail)) ≡ true
over [] front tail new old near last before ends inked long left apart h = h
over (c ∷ []) [] tail new old near last before ends inked long left apart h = absurd (omega arith)
over (c ∷ []) (s ∷ front) tail new old near last before ends inked long left apart h = h
over (c ∷ d ∷ w) [] tail new old near last before ends inked long left apart h =
    let second = (and_parts (nat_eq d 32) (pointwise nat_eq w (take (length w) tail)) (and_parts (nat_eq c new) (pointwise nat_eq (d ∷ w) (take (length (d ∷ w)) (32 ∷ tail))) h).1).0 in
    absurd (both_ways (is_in (c ∷ d ∷ w) 32) inked (or_right (nat_eq c 32) (is_in (d ∷ w) 32) (or_left (nat_eq d 32) (is_in w 32) second)))
over (c ∷ d ∷ []) (s ∷ []) tail new old near last before ends inked long left apart h =
    let parts = and_parts (nat_eq c s) (pointwise nat_eq (d ∷ []) (new ∷ [])) h in
    let is_near : before ≡ near = sym (left (omega arith)) ∙ sym (eqb-true c s parts.0) ∙ ends.0 in
    let is_last : new ≡ last = sym (eqb-true d new (and_parts (nat_eq d new) true parts.1).0) ∙ ends.1 in
    elim apart [
      | inl f ↦ absurd (f is_near)
      | inr f ↦ absurd (f is_last)
    ]
over (c ∷ d ∷ []) (s ∷ t ∷ front) tail new old near last before ends inked long left apart h = h
over (c ∷ d ∷ e ∷ w) (s ∷ front) tail new old near last before ends inked long left apart h =
    let parts = and_parts (nat_eq c s) (pointwise nat_eq (d ∷ e ∷ w) (take (length (d ∷ e ∷ w)) (front ++ new ∷ 32 ∷ tail))) h in
    and_from (nat_eq c s) (pointwise nat_eq (d ∷ e ∷ w) (take (length (d ∷ e ∷ w)) (front ++ old ∷ 32 ∷ tail))) parts.0
    (over (d ∷ e ∷ w) front tail new old near last before ends (inked_rest c (d ∷ e ∷ w) inked) (omega arith)
    (λ some. last_of s front some ∙ left (omega arith)) apart parts.1)
  where
    last_of : (s : ℕ) (front : List ℕ) → 1 ≤ length front → get_or front (length front - 1) 0 ≡ get_or (s ∷ front) (length (s ∷ front) - 1) 0
    last_of s [] some = absurd (omega arith)
    last_of s (t ∷ front) some =
        let e : length (s ∷ t ∷ front) - 1 ≡ suc (length (t ∷ front) - 1) = omega arith in
        sym (ap (λ (i : ℕ). get_or (s ∷ t ∷ front) i 0) e)

drop_behind : (n : ℕ) (xs : List ℕ) (y z : ℕ) (ys : List ℕ) → length xs < n → drop n (xs ++ y ∷ ys) ≡ drop n (xs ++ z ∷ ys)
drop_behind zero xs y z ys past = absurd (omega arith)
drop_behind (suc n) [] y z ys past = refl
drop_behind (suc n) (x ∷ xs) y z ys past = drop_behind n xs y z ys (omega arith)

inked_behind : (n : ℕ) (w : List ℕ) → is_in w 32 ≡ false → is_in (drop n w) 32 ≡ false
inked_behind zero w f = f
inked_behind (suc n) [] f = f
inked_behind (suc n) (c ∷ w) f = inked_behind n w (inked_rest c w f)

ends_behind : (n : ℕ) (w : List ℕ) (near last : ℕ) → EndsIn w near last → n + 2 ≤ length w → EndsIn (drop n w) near last
ends_behind zero w near last ends long = ends
ends_behind (suc n) [] near last ends long = absurd (omega arith)
ends_behind (suc n) (c ∷ []) near last ends long = absurd (omega arith)
ends_behind (suc n) (c ∷ d ∷ []) near last ends long = absurd (omega arith)
ends_behind (suc n) (c ∷ d ∷ e ∷ w) near last ends long = ends_behind n (d ∷ e ∷ w) near last ends (omega arith)

same_length : (front : List ℕ) (new old : ℕ) (tail : List ℕ) → length (front ++ new ∷ tail) ≡ length (front ++ old ∷ tail)
same_length [] new old tail = refl
same_length (x ∷ front) new old tail = ap (λ n. suc n) (same_length front new old tail)

last_dropped : (front : List ℕ) (at : ℕ) → at < length front → get_or (drop at front) (length (drop at front) - 1) 0 ≡ get_or front (length front - 1) 0
last_dropped front at lt =
    get_or-drop at front (length (drop at front) - 1) 0 ∙ ap (λ (i : ℕ). get_or front i 0) (omega (arith, length-drop at front))

-- so no key stands in the row
over_misses : (key front tail : List ℕ) (new old near last before : ℕ) → EndsIn key near last → is_in key 32 ≡ false → 2 ≤ length key
    → (1 ≤ length front → get_or front (length front - 1) 0 ≡ before) → (before ≢ near) ⊎ (new ≢ last)
    → Misses key (front ++ old ∷ 32 ∷ tail) → Misses key (front ++ new ∷ 32 ∷ tail)
over_misses key front tail new old near last before ends inked long left apart none =
    let size = same_length front new old (32 ∷ tail) in
    record {
      inside = λ rest column low high.
          let at = column - 1 in
          let line : ℕ → List ℕ = λ c. front ++ c ∷ 32 ∷ (tail ++ rest) in
          let joined : (c : ℕ) → (front ++ c ∷ 32 ∷ tail) ++ rest ≡ line c = λ c. append_assoc front (c ∷ 32 ∷ tail) rest in
          let was : begins key (line old) column ≡ false =
          ap (λ l. begins key l column) (sym (joined old)) ∙ none.inside rest column low (omega (arith, high, size)) in
          ap (λ l. begins key l column) (joined new)
          ∙ elim (cases_lt (length front) at) [
            | inl past ↦ ap (λ l. pointwise nat_eq key (take (length key) l)) (drop_behind at front new old (32 ∷ (tail ++ rest)) past) ∙ was
            | inr here ↦
                let back = drop at front in
                let cut : (c : ℕ) → drop at (line c) ≡ back ++ c ∷ 32 ∷ (tail ++ rest) = λ c. drop-append-le at front (c ∷ 32 ∷ (tail ++ rest)) here in
                elim (cases_Bool (begins key (line new) column)) [
                  | inl t ↦
                      let now = ap (λ l. pointwise nat_eq key (take (length key) l)) (sym (cut new)) ∙ t in
                      let held =
                      over key back (tail ++ rest) new old near last before ends inked (omega arith)
                      (λ some. last_dropped front at (omega (arith, length-drop at front)) ∙ left (omega (arith, length-drop at front))) apart now in
                      absurd (both_ways (begins key (line old) column) was (ap (λ l. pointwise nat_eq key (take (length key) l)) (cut old) ∙ held))
                  | inr f ↦ f
                ]
          ];
      start = λ n low high.
          let w = drop n key in
          let w_long : 2 ≤ length w = omega (arith, high, length-drop n key) in
          elim (cases_Bool (starts_with nat_eq (front ++ new ∷ 32 ∷ tail) w)) [
            | inl t ↦
                absurd (both_ways (starts_with nat_eq (front ++ old ∷ 32 ∷ tail) w) (none.start n low high)
                (over w front tail new old near last before (ends_behind n key near last ends (omega (arith, high))) (inked_behind n key inked) (omega (arith, w_long)) left apart t))
            | inr f ↦ f
          ];
    }

same_list : (xs ys : List ℕ) → length xs ≡ length ys → ((k : ℕ) → k < length xs → get_or xs k 0 ≡ get_or ys k 0) → xs ≡ ys
same_list [] [] long each = refl
same_list [] (y ∷ ys) long each = absurd (omega arith)
same_list (x ∷ xs) [] long each = absurd (omega arith)
same_list (x ∷ xs) (y ∷ ys) long each =
    ap (λ c. c ∷ xs) (each zero (omega arith)) ∙ ap (λ l. y ∷ l) (same_list xs ys (omega arith) (λ k lt. each (suc k) (omega arith)))

-- ---- rows

read : Cell → ℕ
read cell = character cell.glyph

-- the character at a place of a row
pub row_char : (wide : Bool) (row : Row) (k : ℕ) → length row.cells ≡ 132 → k < length (row_text wide row) → get_or (row_text wide row) k 0 ≡ character (cell_at row (k + 1)).glyph
row_char wide row k whole lt =
    let m = margin_of wide row.size in
    let long : k < length (take m row.cells) = omega (arith, length-map (take m row.cells) (λ cell. character cell.glyph)) in
    get_or-map (λ (cell : Cell). character cell.glyph) (take m row.cells) k blank 0 long
    ∙ ap (λ (cell : Cell). character cell.glyph) (get_or-take m row.cells k blank (omega (arith, length-take m row.cells)) ∙ sym (nth_next blank row.cells k))

pub row_long : (wide : Bool) (row : Row) → length row.cells ≡ 132 → margin_of wide row.size ≤ 132 → length (row_text wide row) ≡ margin_of wide row.size
row_long wide row whole high =
    length-map (take (margin_of wide row.size) row.cells) (λ cell. character cell.glyph) ∙ omega (arith, length-take (margin_of wide row.size) row.cells)

-- a cell of a row that is told by its columns
told_cell : (row : Row) (f : ℕ → Cell) (k : ℕ) → k < 132 → cell_at (row_by row.size f) (k + 1) ≡ f (k + 1)
told_cell row f k lt = nth_next blank (table 132 f) k ∙ get_or-table 132 f k blank lt

-- the text of a row in which a cell is another
pub cell_text : (wide : Bool) (row : Row) (at : ℕ) (cell : Cell) → length row.cells ≡ 132 → margin_of wide row.size ≤ 132 → at < margin_of wide row.size
    → row_text wide (with_cell (at + 1) cell row) ≡ set (row_text wide row) at (character cell.glyph)
cell_text wide row at cell whole high lt =
    let f : ℕ → Cell = λ column. if column == at + 1 then cell else cell_at row column in
    let new = row_by row.size f in
    let old_text = row_text wide row in
    let new_text = row_text wide new in
    let new_whole = length-table 132 f in
    let new_long : length new_text ≡ margin_of wide row.size = row_long wide new new_whole high in
    let old_long : length old_text ≡ margin_of wide row.size = row_long wide row whole high in
    same_list new_text (set old_text at (character cell.glyph)) (new_long ∙ sym old_long ∙ sym (length-set old_text at (character cell.glyph)))
    (λ k within.
    row_char wide new k new_whole within
    ∙ ap (λ (c : Cell). character c.glyph) (told_cell row f k (omega (arith, new_long)))
    ∙ elim (cases_eq k at) [
      | inl e ↦
          rw (eq-eqb (k + 1) (at + 1) (omega (arith, e)))
          (sym (ap (λ (i : ℕ). get_or (set old_text at (character cell.glyph)) i 0) e ∙ get_or-set_same old_text at (character cell.glyph) 0 (omega (arith, old_long))))
      | inr apart ↦
          rw (ne_eqb (k + 1) (at + 1) (λ e. apart (omega (arith, e))))
          (sym (get_or-set_other old_text at k (character cell.glyph) 0 apart ∙ row_char wide row k whole (omega (arith, old_long, new_long))))
    ])

-- ---- screens

-- the row of a line that is another
pub row_here : (at : ℕ) (row : Row) (rows : List Row) → 1 ≤ at → at ≤ 24 → row_at (with_row at row rows) at ≡ row
row_here at row rows low high =
    let f : ℕ → Row = λ line. if line == at then row else row_at rows line in
    row_told f at (omega arith) ∙ rw (eq-eqb (at - 1 + 1) at (omega arith)) refl

-- a cell of a row in which one is another
pub other_cell : (row : Row) (at column : ℕ) (cell : Cell) → 1 ≤ column → column ≤ 132 → column ≢ at → cell_at (with_cell at cell row) column ≡ cell_at row column
other_cell row at column cell low high apart =
    let f : ℕ → Cell = λ k. if k == at then cell else cell_at row k in
    let is : column - 1 + 1 ≡ column = omega arith in
    subst (λ (k : ℕ). cell_at (row_by row.size f) k ≡ cell_at row k) is
    (told_cell row f (column - 1) (omega arith) ∙ rw (ne_eqb (column - 1 + 1) at (λ e. apart (omega (arith, e)))) refl)

same_cell : (row : Row) (at : ℕ) (cell : Cell) → 1 ≤ at → at ≤ 132 → cell_at (with_cell at cell row) at ≡ cell
same_cell row at cell low high =
    let f : ℕ → Cell = λ k. if k == at then cell else cell_at row k in
    let is : at - 1 + 1 ≡ at = omega arith in
    subst (λ (k : ℕ). cell_at (row_by row.size f) k ≡ cell) is
    (told_cell row f (at - 1) (omega arith) ∙ rw (eq-eqb (at - 1 + 1) at is) refl)

-- none of these characters is the last one behind the one before it
abbrev pub Apart : ℕ → ℕ → ℕ → List ℕ → Type 0
Apart near last before [] = Unit {0}
Apart near last before (glyph ∷ glyphs) = ((before ≢ near) ⊎ (character glyph ≢ last)) × Apart near last (character glyph) glyphs

module _ (key : List ℕ) (good : IsKey key) (near last : ℕ) (ends : EndsIn key near last) (long : 2 ≤ length key) where
  -- glyphs go over blank cells, before the right margin
  pub record Over (p : Picture) (before : ℕ) (glyphs : List ℕ) : Type 0 where
    pub line_low : 1 ≤ p.line
    pub line_high : p.line ≤ 24
    pub column_low : 1 ≤ p.column
    pub wrap : p.wrap ≡ false
    pub margin : right_margin p p.line ≤ 132
    pub room : p.column + length glyphs ≤ right_margin p p.line
    pub blank : (column : ℕ) → p.column < column → column ≤ p.column + length glyphs → character (cell_at (row_at p.rows p.line) column).glyph ≡ 32
    pub left : 1 < p.column → character (cell_at (row_at p.rows p.line) (p.column - 1)).glyph ≡ before
    pub apart : Apart near last before glyphs

  -- a cell is written before a blank one
  row_over : (wide : Bool) (row : Row) (at : ℕ) (cell : Cell) (before : ℕ) → margin_of wide row.size ≤ 132 → at + 1 < margin_of wide row.size
      → character (cell_at row (at + 2)).glyph ≡ 32 → (1 ≤ at → character (cell_at row at).glyph ≡ before) → (before ≢ near) ⊎ (character cell.glyph ≢ last)
      → RowLacks key wide row → RowLacks key wide (with_cell (at + 1) cell row)
  row_over wide row at cell before high lt space left apart lacks =
      let f : ℕ → Cell = λ column. if column == at + 1 then cell else cell_at row column in
      let text = row_text wide row in
      let m : length text ≡ margin_of wide row.size = row_long wide row lacks.whole high in
      let within : at < length text = omega (arith, m) in
      let old = get_or text at 0 in
      let front = take at text in
      let tail = drop (suc at + 1) text in
      let next : drop (suc at) text ≡ 32 ∷ tail =
      drop_more text (suc at) 0 (omega (arith, m))
      ∙ ap (λ c. c ∷ tail) (row_char wide row (suc at) lacks.whole (omega (arith, m)) ∙ ap (λ (k : ℕ). character (cell_at row k).glyph) (omega arith) ∙ space) in
      let was : text ≡ front ++ old ∷ 32 ∷ tail = split_at text at 0 within ∙ ap (λ l. front ++ old ∷ l) next in
      let is : row_text wide (with_cell (at + 1) cell row) ≡ front ++ character cell.glyph ∷ 32 ∷ tail =
      cell_text wide row at cell lacks.whole high (omega arith) ∙ set_split text at (character cell.glyph) within ∙ ap (λ l. front ++ character cell.glyph ∷ l) next in
      let front_long : length front ≡ at = omega (arith, length-take at text) in
      record {
        whole = length-table 132 f;
        misses = subst (Misses key) (sym is)
            (over_misses key front tail (character cell.glyph) old near last before ends good.inked long
            (λ some.
            let there : at - 1 < at = omega (arith, front_long) in
            ap (λ (i : ℕ). get_or front i 0) (ap (λ (n : ℕ). n - 1) front_long)
            ∙ get_or-take at text (at - 1) 0 there
            ∙ row_char wide row (at - 1) lacks.whole (omega (arith, m))
            ∙ ap (λ (k : ℕ). character (cell_at row k).glyph) (omega (arith, there))
            ∙ left (omega (arith, front_long)))
            apart (subst (Misses key) was lacks.misses));
      }

  -- the picture after one
  abbrev pub after : Cell → Picture → Picture
  after cell p = record p { rows = put_rows key good cell p; column = p.column + 1 }

  shown_is : (glyph : ℕ) (rendition : Attributes) (autowrap : Bool) (p : Picture) → p.wrap ≡ false → p.column ≢ right_margin p p.line
      → shown glyph rendition autowrap p ≡ after (record { glyph = glyph; rendition = rendition }) p
  shown_is glyph rendition autowrap p wrap apart = rw wrap (rw (ne_eqb p.column (right_margin p p.line) apart) refl)

  over_shown : (glyph : ℕ) (rendition : Attributes) (p : Picture) (before : ℕ) (glyphs : List ℕ) → Over p before (glyph ∷ glyphs) → ScreenLacks key p
      → ScreenLacks key (after (record { glyph = glyph; rendition = rendition }) p)
  over_shown glyph rendition p before glyphs o lacks =
      let cell : Cell = record { glyph = glyph; rendition = rendition } in
      let row = row_at p.rows p.line in
      let is : p.column - 1 + 1 ≡ p.column = omega (arith, o.column_low) in
      let new : RowLacks key p.wide (with_cell p.column cell row) =
      subst (λ (k : ℕ). RowLacks key p.wide (with_cell k cell row)) is
      (row_over p.wide row (p.column - 1) cell before o.margin (omega (arith, o.room, o.column_low))
      (o.blank (p.column - 1 + 2) (omega (arith, o.column_low)) (omega (arith, o.column_low)))
      (λ some. o.left (omega arith)) o.apart.0 (lacks.row p.line)) in
      record { row = row_changed key good p.wide p.line (with_cell p.column cell row) p.rows new lacks.row }

  over_next : (glyph : ℕ) (rendition : Attributes) (p : Picture) (before : ℕ) (glyphs : List ℕ) → Over p before (glyph ∷ glyphs)
      → Over (after (record { glyph = glyph; rendition = rendition }) p) (character glyph) glyphs
  over_next glyph rendition p before glyphs o =
      let cell : Cell = record { glyph = glyph; rendition = rendition } in
      let row = row_at p.rows p.line in
      let new = with_cell p.column cell row in
      let q = after cell p in
      let here : row_at q.rows p.line ≡ new = row_here p.line new p.rows o.line_low o.line_high in
      let same : right_margin q q.line ≡ right_margin p p.line = ap (λ (r : Row). margin_of p.wide r.size) here in
      record {
        line_low = o.line_low;
        line_high = o.line_high;
        column_low = omega arith;
        wrap = o.wrap;
        margin = omega (arith, same, o.margin);
        room = omega (arith, same, o.room);
        blank = λ column from to.
            ap (λ (r : Row). character (cell_at r column).glyph) here
            ∙ ap (λ (c : Cell). character c.glyph) (other_cell row p.column column cell (omega arith) (omega (arith, o.room, o.margin)) (λ e. absurd (omega (arith, e))))
            ∙ o.blank column (omega arith) (omega arith);
        left = λ some.
            let is : p.column + 1 - 1 ≡ p.column = omega arith in
            ap (λ (r : Row). character (cell_at r (p.column + 1 - 1)).glyph) here
            ∙ ap (λ (k : ℕ). character (cell_at new k).glyph) is
            ∙ ap (λ (c : Cell). character c.glyph) (same_cell row p.column cell o.column_low (omega (arith, o.room, o.margin)));
        apart = o.apart.1;
      }

  pub run_over : (glyphs : List ℕ) (rendition : Attributes) (autowrap : Bool) (p : Picture) (before : ℕ) → Over p before glyphs → ScreenLacks key p
      → ScreenLacks key (run_shown glyphs rendition autowrap p)
  run_over [] rendition autowrap p before o lacks = lacks
  run_over (glyph ∷ glyphs) rendition autowrap p before o lacks =
      let cell : Cell = record { glyph = glyph; rendition = rendition } in
      let is = shown_is glyph rendition autowrap p o.wrap (λ e. absurd (omega (arith, e, o.room))) in
      subst (λ (q : Picture). ScreenLacks key (run_shown glyphs rendition autowrap q)) (sym is)
      (run_over glyphs rendition autowrap (after cell p) (character glyph) (over_next glyph rendition p before glyphs o) (over_shown glyph rendition p before glyphs o lacks))

-- ---- bytes

pub prefix_all : (p : ℕ → Bool) (xs : List ℕ) (n : ℕ) → n ≤ prefix_len p xs → list_all p (take n xs) ≡ true
prefix_all p xs zero few = refl
prefix_all p [] (suc n) few = refl
prefix_all p (x ∷ xs) (suc n) few = elim (cases_Bool (p x)) [
  | inl t ↦ let more = rw t at few in rw t (prefix_all p xs n (omega (arith, more)))
  | inr f ↦ let none = rw f at few in absurd (omega (arith, none))
]

-- what the code finds is free
pub is_free : (ending : Ending) (p : Picture) (bytes : List ℕ) (all : List Cell) (most len n : ℕ) → p.wrap ≡ false
    → all ≡ (row_at p.rows p.line).cells → p.column + len ≤ right_margin p p.line → len ≤ prefix_len is_graphic (take most bytes) → most ≤ length bytes → 0 < n → n ≤ len
    → ((k : ℕ) → k < len → (get_or all (p.column + k) blank).glyph ≡ 32)
    → (1 < p.column → is_pair ending (get_or all (p.column - 2) blank).glyph (get_or bytes 0 0) ≡ false)
    → ((k : ℕ) → k + 1 < n → is_pair ending (get_or bytes k 0) (get_or bytes (k + 1) 0) ≡ false)
    → IsFree ending p (take n bytes)
is_free ending p bytes all most len n wrap rows room graphic within some few blank first apart =
    let row = row_at p.rows p.line in
    let n_long : length (take n bytes) ≤ n = omega (arith, length-take n bytes) in
    let run : len ≤ most = omega (arith, graphic, prefix_len-le-length is_graphic (take most bytes), length-take most bytes) in
    let cell_is : (k : ℕ) → cell_at row (k + 1) ≡ get_or all k blank_cell =
    λ k. nth_next blank_cell row.cells k ∙ ap (λ l. get_or l k blank_cell) (sym rows) in
    record {
      wrap = wrap;
      room = omega (arith, n_long, room);
      blank = λ column from to.
          let k = column - 1 in
          let j = k - p.column in
          let is : k + 1 ≡ column = omega arith in
          let there : p.column + j ≡ k = omega arith in
          subst (λ (c : ℕ). (cell_at row c).glyph ≡ 32) is
          (ap (λ (c : Cell). c.glyph) (cell_is k ∙ ap (λ (i : ℕ). get_or all i blank_cell) (sym there)) ∙ blank j (omega (arith, n_long)));
      first = λ behind.
          let is : p.column - 2 + 1 ≡ p.column - 1 = omega (arith, behind) in
          subst (λ (c : ℕ). is_pair ending (cell_at row c).glyph (get_or (take n bytes) 0 0) ≡ false) is
          (ap (λ (c : Cell). is_pair ending c.glyph (get_or (take n bytes) 0 0)) (cell_is (p.column - 2))
          ∙ ap (is_pair ending (get_or all (p.column - 2) blank_cell).glyph) (get_or-take n bytes 0 0 some)
          ∙ first behind);
      pairs = λ k lt.
          let in_n : k + 1 < n = omega (arith, n_long) in
          ap (λ a. is_pair ending a (get_or (take n bytes) (k + 1) 0)) (get_or-take n bytes k 0 (omega arith))
          ∙ ap (λ b. is_pair ending (get_or bytes k 0) b) (get_or-take n bytes (k + 1) 0 in_n)
          ∙ apart k in_n;
      graphic =
          ap (λ l. list_all is_graphic l) (sym (take-take n most bytes (omega (arith, run))))
          ∙ prefix_all is_graphic (take most bytes) n (omega (arith, graphic));
    }

-- a key of which these are the last two
ends_in : (key : List ℕ) (near last : ℕ) → 2 ≤ length key → get_or key (length key - 2) 0 ≡ near → get_or key (length key - 1) 0 ≡ last → EndsIn key near last
ends_in [] near last long one two = absurd (omega arith)
ends_in (c ∷ []) near last long one two = absurd (omega arith)
ends_in (c ∷ d ∷ []) near last long one two = (one, two)
ends_in (c ∷ d ∷ e ∷ rest) near last long one two =
    let all = c ∷ d ∷ e ∷ rest in
    let tail = d ∷ e ∷ rest in
    let is : length all - 2 ≡ suc (length tail - 2) = omega arith in
    let is' : length all - 1 ≡ suc (length tail - 1) = omega arith in
    ends_in (d ∷ e ∷ rest) near last (omega arith) (sym (ap (λ (i : ℕ). get_or all i 0) is) ∙ one) (sym (ap (λ (i : ℕ). get_or all i 0) is') ∙ two)

-- a byte that shows a character of ASCII behind the space is that character
shows_itself : (charset : CharacterSet) (byte c : ℕ) → 33 ≤ c → c < 127 → byte ≤ 126 → character (glyph_of charset byte) ≡ c → byte ≡ c
shows_itself Ascii byte c low high most is = graphic byte c low high is
shows_itself Uk byte c low high most is = elim (cases_Bool (byte == 35)) [
  | inl t ↦ let pound = graphic 30 c low high (rw t at is) in absurd (omega (arith, pound))
  | inr f ↦ graphic byte c low high (rw f at is)
]
shows_itself SpecialGraphics byte c low high most is = elim (cases_Bool (nat_le 95 byte)) [
  | inl t ↦ let drawn = graphic (byte - 95) c low high (rw t at is) in absurd (omega (arith, drawn))
  | inr f ↦ graphic byte c low high (rw f at is)
]

one_of : (a b c d : ℕ) → ((a == c) && (b == d)) ≡ false → (a ≢ c) ⊎ (b ≢ d)
one_of a b c d none = elim (cases_Bool (a == c)) [
  | inl t ↦ inr (λ e. both_ways ((a == c) && (b == d)) none (and_from (a == c) (b == d) t (eq-eqb b d e)))
  | inr f ↦ inl (λ e. both_ways (a == c) f (eq-eqb a c e))
]

graphic_high : (byte : ℕ) → is_graphic byte ≡ true → byte ≤ 126
graphic_high byte is = leb-true byte 126 (and_parts (nat_le 32 byte) (nat_le byte 126) is).1

-- bytes that show no ending
apart_bytes : (key : List ℕ) (ending : Ending) (charset : CharacterSet) (bytes : List ℕ) (before : ℕ) → IsEnding key ending
    → (0 < length bytes → (before ≢ ending.near) ⊎ (character (glyph_of charset (get_or bytes 0 0)) ≢ ending.last))
    → ((k : ℕ) → k + 1 < length bytes → is_pair ending (get_or bytes k 0) (get_or bytes (k + 1) 0) ≡ false) → list_all is_graphic bytes ≡ true
    → Apart ending.near ending.last before (map (glyph_of charset) bytes)
apart_bytes key ending charset [] before e first pairs all = tt
apart_bytes key ending charset (byte ∷ bytes) before e first pairs all =
    let parts = and_parts (is_graphic byte) (list_all is_graphic bytes) all in (
      first (omega arith),
      apart_bytes key ending charset bytes (character (glyph_of charset byte)) e
          (λ some. shown_apart bytes some parts.1 (pairs 0 (omega arith)))
          (λ k lt.
          let is : suc k + 1 ≡ suc (k + 1) = omega arith in
          ap (λ (i : ℕ). is_pair ending (get_or bytes k 0) (get_or (byte ∷ bytes) i 0)) (sym is) ∙ pairs (suc k) (omega arith)) parts.1,
    )
  where
    shown_apart : (bytes : List ℕ) → 0 < length bytes → list_all is_graphic bytes ≡ true → is_pair ending byte (get_or bytes 0 0) ≡ false
        → (character (glyph_of charset byte) ≢ ending.near) ⊎ (character (glyph_of charset (get_or bytes 0 0)) ≢ ending.last)
    shown_apart [] some all none = absurd (omega arith)
    shown_apart (next ∷ rest) some rest_all none =
        let here = graphic_high byte (and_parts (is_graphic byte) (list_all is_graphic bytes) all).0 in
        let there = graphic_high next (and_parts (is_graphic next) (list_all is_graphic rest) rest_all).0 in
        elim (one_of byte next ending.near ending.last none) [
          | inl f ↦ inl (λ is. f (shows_itself charset byte ending.near e.near_low e.near_high here is))
          | inr f ↦ inr (λ is. f (shows_itself charset next ending.last e.last_low e.last_high there is))
        ]

module _ (key : List ℕ) (good : IsKey key) (ending : Ending) (e : IsEnding key ending) where
  ends : EndsIn key ending.near ending.last
  ends = ends_in key ending.near ending.last e.long e.near e.last

  -- what was left of the cursor
  abbrev pub left_of : Picture → ℕ
  left_of p = if nat_le 2 p.column then character (cell_at (row_at p.rows p.line) (p.column - 1)).glyph else 32

  over_free : (charset : CharacterSet) (p : Picture) (bytes : List ℕ) → Sound p → right_margin p p.line ≤ 132 → IsFree ending p bytes
      → Over key good ending.near ending.last ends e.long p (left_of p) (map (glyph_of charset) bytes)
  over_free charset p bytes sound high free =
      let long = length-map bytes (glyph_of charset) in
      record {
        line_low = sound.line_low;
        line_high = sound.line_high;
        column_low = sound.column_low;
        wrap = free.wrap;
        margin = high;
        room = omega (arith, free.room, long);
        blank = λ column from to. ap character (free.blank column from (omega (arith, to, long)));
        left = λ behind. sym (rw (le-leb 2 p.column (omega arith)) refl);
        apart = apart_bytes key ending charset bytes (left_of p) e (λ some. first some) free.pairs free.graphic;
      }
    where
      first_graphic : (bytes : List ℕ) → 0 < length bytes → list_all is_graphic bytes ≡ true → get_or bytes 0 0 ≤ 126
      first_graphic [] some all = absurd (omega arith)
      first_graphic (byte ∷ bytes) some all = graphic_high byte (and_parts (is_graphic byte) (list_all is_graphic bytes) all).0

      first : 0 < length bytes → (left_of p ≢ ending.near) ⊎ (character (glyph_of charset (get_or bytes 0 0)) ≢ ending.last)
      first some = elim (cases_lt 1 p.column) [
        | inl behind ↦ elim (one_of (cell_at (row_at p.rows p.line) (p.column - 1)).glyph (get_or bytes 0 0) ending.near ending.last (free.first behind)) [
          | inl f ↦ inl (λ is. f (graphic (cell_at (row_at p.rows p.line) (p.column - 1)).glyph ending.near e.near_low e.near_high
              (sym (rw (le-leb 2 p.column (omega arith)) refl) ∙ is)))
          | inr f ↦ inr (λ is. f (shows_itself charset (get_or bytes 0 0) ending.last e.last_low e.last_high (first_graphic bytes some free.graphic) is))
        ]
        | inr at ↦ inl (λ is. let blank_is = rw (lt-leb 2 p.column (omega arith)) at is in absurd (omega (arith, blank_is, e.near_low)))
      ]

  apart_front : (k before : ℕ) (glyphs : List ℕ) → Apart ending.near ending.last before glyphs → Apart ending.near ending.last before (take k glyphs)
  apart_front zero before glyphs h = tt
  apart_front (suc k) before [] h = tt
  apart_front (suc k) before (glyph ∷ glyphs) h = (h.0, apart_front k (character glyph) glyphs h.1)

  over_front : (k : ℕ) (p : Picture) (before : ℕ) (glyphs : List ℕ) → Over key good ending.near ending.last ends e.long p before glyphs
      → Over key good ending.near ending.last ends e.long p before (take k glyphs)
  over_front k p before glyphs o =
      let few : length (take k glyphs) ≤ length glyphs = omega (arith, length-take k glyphs) in
      record {
        line_low = o.line_low;
        line_high = o.line_high;
        column_low = o.column_low;
        wrap = o.wrap;
        margin = o.margin;
        room = omega (arith, o.room, few);
        blank = λ column from to. o.blank column from (omega (arith, to, few));
        left = o.left;
        apart = apart_front k before glyphs o.apart;
      }

  graphic_front : (k : ℕ) (bytes : List ℕ) → list_all is_graphic bytes ≡ true → list_all is_graphic (take k bytes) ≡ true
  graphic_front zero bytes all = refl
  graphic_front (suc k) [] all = refl
  graphic_front (suc k) (byte ∷ bytes) all =
      let parts = and_parts (is_graphic byte) (list_all is_graphic bytes) all in
      and_from (is_graphic byte) (list_all is_graphic (take k bytes)) parts.0 (graphic_front k bytes parts.1)

  -- a calm term of which the screen lacks the key stays one while they are played
  pub free_lasts : CharactersBring → GlyphsAreWritten → (x : Term) (bytes : List ℕ) (n count : ℕ) → Sound x.console.picture → right_margin x.console.picture x.console.picture.line ≤ 132
      → x.pending ≡ [] → IsFree ending x.console.picture (take n bytes) → count ≤ n → Lasts key good x → Lasts key good (play x (take count bytes))
  free_lasts characters written x bytes n count sound high ground free few h =
      let s = x.console in
      let charset = set_in_use s.modes.mode s.sets in
      let front = take count (take n bytes) in
      let same : front ≡ take count bytes = take-take count n bytes few in
      let glyphs = map (glyph_for s) front in
      let with_pending : List ℕ → Term = λ pending. record { console = s; pending = pending; reports = x.reports } in
      let is : x ≡ on_ground s x.reports = ap with_pending ground in
      let comes : play x front ≡ on_ground (glyphs_written glyphs s) x.reports =
      ap (λ (y : Term). play y front) is ∙ (characters s front (graphic_front count (take n bytes) free.graphic)).played x.reports
      ∙ ap (λ (t : Console). on_ground t x.reports) (written s glyphs h.calm.over) in
      let over = over_front count s.picture (left_of s.picture) (map (glyph_for s) (take n bytes)) (over_free charset s.picture (take n bytes) sound high free) in
      let lacks : ScreenLacks key (run_shown glyphs s.rendition s.modes.autowrap s.picture) =
      run_over key good ending.near ending.last ends e.long glyphs s.rendition s.modes.autowrap s.picture (left_of s.picture)
      (subst (Over key good ending.near ending.last ends e.long s.picture (left_of s.picture)) (take-map (glyph_for s) count (take n bytes)) over) h.lacks in
      subst (λ b. Lasts key good (play x b)) same
      (subst (Lasts key good) (sym comes)
      (record { calm = record { profile = h.calm.profile; over = h.calm.over; pending = λ none. cc }; lacks = lacks }))

  -- up to so many of them, and of plain ones behind them
  pub text_lasts : CharactersBring → GlyphsAreWritten → PlaysInParts → ((x : Term) (bytes : List ℕ) → IsSafe x.console → IsSafe (play x bytes).console)
      → (x : Term) (bytes : List ℕ) (n more : ℕ) → IsSafe x.console → right_margin x.console.picture x.console.picture.line ≤ 132
      → x.pending ≡ [] → IsFree ending x.console.picture (take n bytes) → All (IsPlain key) (take more (drop n bytes)) → Lasts key good x → (count : ℕ) → count ≤ n + more → Lasts key good (play x (take count bytes))
  text_lasts characters written plays safes x bytes n more safe high ground free plain h count few =
      let each : (k : ℕ) → k ≤ n → Lasts key good (play x (take k bytes)) = λ k le. free_lasts characters written x bytes n k safe.sound high ground free le h in
      elim (cases_lt n count) [
        | inl past ↦
            let j = count - n in
            let is : n + j ≡ count = omega arith in
            let here = each n (omega arith) in
            subst (λ (m : ℕ). Lasts key good (play x (take m bytes))) is
            (subst (Lasts key good) (sym (play_on plays x bytes n j))
            (running_lasts key good safes (play x (take n bytes)) (drop n bytes) more j (safes x (take n bytes) safe) plain here.calm here.lacks (omega arith)))
        | inr within ↦ each count within
      ]
