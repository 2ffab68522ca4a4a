-- What bytes keep: the last character stands where it was put, and a title is alone.
use Rattle.std.proofs.Common.{◌≡◌, ℕ, zero, suc, ◌+◌, ◌-◌, ◌≤◌, Bool, true, false, List, [], length, min, refl, sym, ap, ap₂, subst, inl, inr, ◌∙◌, arith}
use Rattle.std.specs.Prelude.{Option, Some, None, if◌then◌else◌, ◌==◌, ◌&&◌, ◌||◌, nat_le, slice_index}
use Rattle.std.specs.List.{list_all}
use Rattle.std.proofs.lemmas.Bool.{cases_Bool, cases_eq, false≢true}
use Rattle.std.proofs.lemmas.Bool.Decides.{nat_tests}
use Rattle.std.proofs.lemmas.List.Sums.{AllPass-from_list_all}
use Rattle.characters.specs.Width.{width}
use Rattle.vt_parser.specs.Syntax.{is_graphic}
use Rattle.sheet.specs.declared.rendition.Colour.{Colour}
use Rattle.sheet.specs.declared.rendition.Colour.TheVariants.{Default}
use Rattle.sheet.specs.declared.rendition.Rendition.{Rendition}
use Rattle.sheet.specs.Cells.{Cell, blank, cell_at, covering, is_covered, is_wide, lettered, with_mark}
use Rattle.sheet.specs.Edits.{character_column, inserted, mark_added, put as letter_put, written}
use Rattle.sheet.specs.Grid.{row_at, with_row}
use Rattle.sheet.specs.Halves.{is_half}
use Rattle.xterm_screen.specs.Picture.{Picture}
use Rattle.xterm_screen.specs.Puts.{advanced, character_put, character_written, made_ready, mark_column, next_line, overhangs, wrap_taken, width as columns_of}
use Rattle.xterm_term.specs.declared.sets.CharacterSet.{CharacterSet}
use Rattle.xterm_term.specs.declared.sets.CharacterSet.TheVariants.{Ascii, Uk, SpecialGraphics}
use Rattle.xterm_term.specs.Console.{Console, IsSafe, forgotten}
use Rattle.xterm_term.specs.Graphics.{special_graphics}
use Rattle.xterm_term.specs.Puts.{is_c1, put, put_by_width}
use Rattle.xterm_term.specs.Sets.{character_of, set_in_use}
use Rattle.xterm_escaped.proofs.Drawn.{end_of}
use Rattle.xterm_escaped.proofs.Fitting.{lettered_open, lettered_rendition, lettered_wide, marked_covered, marked_rendition, marked_wide, mended_there}
use Rattle.xterm_escaped.proofs.FittingScreens.{PictureFits, fits_ready, long_inserted, long_put}
use Rattle.xterm_escaped.proofs.FittingTerms.{Fit, FitLaws}
use Rattle.xterm_escaped.proofs.Redrawing.{row_there}
use Rattle.xterm_escaped.proofs.Tables.{length-table, nth-table}
use Rattle.xterm_escaped.proofs.Typed.{spelt}
use Rattle.xterm_state.proofs.Again.{IsGiven, advanced_to, made_is, rows_made}
use Rattle.xterm_state.proofs.Last.{IsPlace, LastStands, Stands, StandsIn}
use Rattle.xterm_state.proofs.Reached.{ready_unwraps, taken_still}

-- ---- characters that a set gives

given_test : ℕ → Bool
given_test c = (c == 32) || (nat_le 0x80 c && nat_le c 0xD7FF)

graphics_pass : list_all given_test special_graphics ≡ true
unfolding given_test
graphics_pass = refl

upper_given : (set : CharacterSet) (c : ℕ) → 0x80 ≤ c → c ≤ 0xD7FF → IsGiven set c
upper_given set c low high = inr (spelt c low (inl (omega arith)))

space_given : (c : ℕ) → (c == 32) ≡ true → IsGiven SpecialGraphics c
unfolding character_of
space_given c is = let e : 32 ≡ c = grind (arith, nat_tests) in subst (IsGiven SpecialGraphics) e (inl (refl, refl))

tested_given : (c : ℕ) → given_test c ≡ true → IsGiven SpecialGraphics c
unfolding given_test
tested_given c test = elim (cases_Bool (c == 32)) [
  | inl space ↦ space_given c space
  | inr other ↦ upper_given SpecialGraphics c (grind (arith, nat_tests)) (grind (arith, nat_tests))
]

either_given : (b : Bool) (set : CharacterSet) (c d : ℕ) → (b ≡ true → IsGiven set c) → (b ≡ false → IsGiven set d) → IsGiven set (if b then c else d)
either_given true set c d one two = one refl
either_given false set c d one two = two refl

graphic : (byte : ℕ) → 32 ≤ byte → byte ≤ 126 → is_graphic byte ≡ true
graphic byte low high = grind (arith, nat_tests)

pub set_given : (set : CharacterSet) (byte : ℕ) → 32 ≤ byte → byte ≤ 126 → IsGiven set (character_of set byte)
unfolding character_of given_test
set_given Ascii byte low high = inl (graphic byte low high, refl)
set_given Uk byte low high =
    either_given (byte == 35) Uk 0xA3 byte (λ is. upper_given Uk 0xA3 (omega arith) (omega arith))
    (λ other. inl (graphic byte low high, ap (λ b. if b then 0xA3 else byte) other))
set_given SpecialGraphics byte low high =
    either_given (nat_le 95 byte) SpecialGraphics (slice_index special_graphics (byte - 95)) byte
    (λ is. tested_given _ (AllPass-from_list_all given_test special_graphics graphics_pass (byte - 95) 0 (omega arith)))
    (λ other. inl (graphic byte low high, ap (λ b. if b then slice_index special_graphics (byte - 95) else byte) other))

-- ---- a character that is put

-- a place on the screen
record Placed (p : Picture) : Type 0 where
  line_low : 1 ≤ p.line
  line_high : p.line ≤ p.lines
  column_low : 1 ≤ p.column
  column_high : p.column ≤ p.columns

placed_if : (b : Bool) (p q : Picture) → Placed p → Placed q → Placed (if b then p else q)
placed_if true p q one two = one
placed_if false p q one two = two

placed_next : (paper : Colour) (p : Picture) → 1 ≤ p.columns → Placed p → Placed (next_line paper p)
placed_next paper p some at =
    let low = at.line_low in let high = at.line_high in
    placed_if (p.line == p.bottom) _ _
    (record { line_low = low; line_high = high; column_low = omega arith; column_high = some })
    (record { line_low = omega arith; line_high = omega arith; column_low = omega arith; column_high = some })

placed_ready : (wide autowrap : Bool) (paper : Colour) (p : Picture) → 1 ≤ p.columns → Placed p → Placed (made_ready wide autowrap paper p)
placed_ready wide autowrap paper p some at =
    let q : Picture = wrap_taken paper p in
    let taken = placed_if p.wrap (next_line paper p) p (placed_next paper p some at) at in
    let columns : q.columns ≡ p.columns = (taken_still p.wrap paper p).columns in
    placed_if (autowrap && overhangs wide q) (next_line paper q) q (placed_next paper q (omega arith) taken) taken

covers_all : (rendition : Rendition) → is_covered (covering rendition) ≡ true
unfolding is_covered covering
covers_all rendition = refl

-- the cell that takes it
letter_there : (at character : ℕ) (wide : Bool) (rendition : Rendition) (row : List Cell) → 1 ≤ at → at ≤ length row → (wide ≡ true → at + 1 ≤ length row)
    → cell_at (letter_put at character wide rendition row) at ≡ lettered character wide rendition
letter_there at character wide rendition row low high next =
    let w = written at character wide rendition row in
    let letter = lettered character wide rendition in
    let f : ℕ → Cell = λ k. if k == at then letter else (if wide && k == at + 1 then covering rendition else cell_at row k) in
    let here : cell_at w at ≡ letter = nth-table (blank Default) (length row) f at low high ∙ (let test : (at == at) ≡ true = grind (arith, nat_tests) in simp test) in
    let whole : is_half (cell_at w (at - 1)) (cell_at w at) (cell_at w (at + 1)) ≡ false =
    ap (λ c. is_half (cell_at w (at - 1)) c (cell_at w (at + 1))) here ∙ not_half wide (λ is. covered is) in
    mended_there rendition.paper w at ∙ ap (λ b. if b then blank rendition.paper else cell_at w at) whole ∙ here
  where
    covered : wide ≡ true → is_covered (cell_at (written at character wide rendition row) (at + 1)) ≡ true
    covered is =
        let apart : (at + 1 == at) ≡ false = grind (arith, nat_tests) in
        let same : (at + 1 == at + 1) ≡ true = grind (arith, nat_tests) in
        ap is_covered (nth-table (blank Default) (length row) (λ k. if k == at then lettered character wide rendition else (if wide && k == at + 1 then covering rendition else cell_at row k)) (at + 1) (omega arith) (next is)
        ∙ simp (apart, is, same)) ∙ covers_all rendition

    not_half : (b : Bool) → (b ≡ true → is_covered (cell_at (written at character wide rendition row) (at + 1)) ≡ true)
        → is_half (cell_at (written at character wide rendition row) (at - 1)) (lettered character b rendition) (cell_at (written at character wide rendition row) (at + 1)) ≡ false
    not_half true is = let c = is refl in let l = lettered_wide character true rendition in let o = lettered_open character true rendition in simp (l, o, c)
    not_half false is = let l = lettered_wide character false rendition in let o = lettered_open character false rendition in simp (l, o)

lettered_character : (character : ℕ) (wide : Bool) (rendition : Rendition) → (lettered character wide rendition).character ≡ character
unfolding lettered
lettered_character character wide rendition = refl

lettered_marks : (character : ℕ) (wide : Bool) (rendition : Rendition) → (lettered character wide rendition).marks ≡ []
unfolding lettered
lettered_marks character wide rendition = refl

-- what keeps the last character, where there is one
abbrev pub Keeps : Console → Type 0
Keeps s = LastStands s s.last

pub keeps_if : (b : Bool) (s t : Console) → Keeps s → Keeps t → Keeps (if b then s else t)
keeps_if true s t one two = one
keeps_if false s t one two = two

-- the columns that one takes
end_by : (wide : Bool) (at : ℕ) → (if wide then at + 1 else at) ≡ at + columns_of wide - 1
end_by true at = omega arith
end_by false at = omega arith

takes_some : (wide : Bool) → 1 ≤ columns_of wide
takes_some true = omega arith
takes_some false = omega arith

fits_in : (wide : Bool) (column columns : ℕ) → column ≤ columns → (wide && (column == columns)) ≡ false → column + columns_of wide ≤ columns + 1
fits_in true column columns high free = grind (arith, nat_tests)
fits_in false column columns high free = omega arith

next_in : (wide : Bool) (column columns : ℕ) → column + columns_of wide ≤ columns + 1 → wide ≡ true → column + 1 ≤ columns
next_in true column columns fits is = omega arith
next_in false column columns fits is = absurd (false≢true is)

-- it stands on the screen that was made ready for it
module _ (wide : Bool) (character : ℕ) (s : Console) (q : Picture) (fits : PictureFits q) (at : Placed q) (unwrapped : q.wrap ≡ false) (over : overhangs wide q ≡ false)
    (given : IsGiven (set_in_use s.sets) character) where
  abbrev rows_1 : List (List Cell)
  rows_1 = rows_made s.modes.insert wide q.line q.column s.rendition.paper q.rows

  abbrev row_1 : List Cell
  row_1 = row_at rows_1 q.line

  abbrev row_2 : List Cell
  row_2 = letter_put q.column character wide s.rendition row_1

  abbrev last_of : ℕ
  last_of = q.column + columns_of wide - 1

  line_in : q.line ≤ length q.rows
  line_in = let long = fits.rows_long in let high = at.line_high in omega arith

  row_full : length (row_at q.rows q.line) ≡ q.columns
  row_full = fits.rows.full q.line at.line_low line_in

  long_rows : (b : Bool) → length (rows_made b wide q.line q.column s.rendition.paper q.rows) ≡ length q.rows
  long_rows true = length-table (length q.rows) _
  long_rows false = refl

  long_row : (b : Bool) → length (row_at (rows_made b wide q.line q.column s.rendition.paper q.rows) q.line) ≡ q.columns
  long_row true =
      ap length (row_there q.line (inserted (columns_of wide) q.column s.rendition.paper (row_at q.rows q.line)) q.rows at.line_low line_in)
      ∙ long_inserted (columns_of wide) q.column s.rendition.paper (row_at q.rows q.line) ∙ row_full
  long_row false = row_full

  fits_there : q.column + columns_of wide ≤ q.columns + 1
  fits_there = fits_in wide q.column q.columns at.column_high over

  abbrev final : Picture
  final = record q {
    rows = with_row q.line row_2 rows_1;
    column = min q.columns (last_of + 1);
    wrap = (last_of == q.columns) && s.modes.autowrap;
  }

  final_is : character_put character wide s.rendition s.modes.autowrap s.modes.insert q ≡ final
  final_is =
      let some = takes_some wide in
      let within = fits_there in
      ap (λ (p : Picture). advanced (columns_of wide) s.modes.autowrap (character_written character wide s.rendition p)) (made_is s.modes.insert wide q s.rendition.paper)
      ∙ advanced_to (columns_of wide) last_of s.modes.autowrap (record q { rows = with_row q.line row_2 rows_1 }) unwrapped (omega arith) (omega arith)

  letter : cell_at row_2 q.column ≡ lettered character wide s.rendition
  letter =
      let long = long_row s.modes.insert in
      let high = at.column_high in
      letter_there q.column character wide s.rendition row_1 at.column_low (omega arith) (λ is. let next = next_in wide q.column q.columns fits_there is in omega arith)

  ends : end_of q.column row_2 ≡ last_of
  ends = ap (λ b. if b then q.column + 1 else q.column) (ap is_wide letter ∙ lettered_wide character wide s.rendition) ∙ end_by wide q.column

  place : IsPlace final s.modes.autowrap (cell_at row_2 q.column) (end_of q.column row_2)
  place =
      let end = ends in
      let some = takes_some wide in
      let within = fits_there in
      elim (cases_eq last_of q.columns) [
        | inl e ↦ (let same : (last_of == q.columns) ≡ true = grind (arith, nat_tests) in elim (cases_Bool s.modes.autowrap) [
          | inl wraps ↦ inl (ap₂ (λ a b. a && b) same wraps, end ∙ e)
          | inr stays ↦ inr (inr (
            ap₂ (λ a b. a && b) same stays,
            stays,
            omega arith,
            end ∙ e,
            λ narrow. ap (λ (c : Cell). c.marks) letter ∙ lettered_marks character wide s.rendition,
          ))
        ])
        | inr ne ↦ (let apart : (last_of == q.columns) ≡ false = grind (arith, nat_tests) in
            inr (inl (ap (λ b. b && s.modes.autowrap) apart, omega arith)))
      ]

  stands_put : Stands (record s { picture = character_put character wide s.rendition s.modes.autowrap s.modes.insert q; last = Some character }) character
  stands_put =
      let t : Console = record s { picture = final; last = Some character } in
      let line_long : q.line ≤ length rows_1 = (let long = long_rows s.modes.insert in let within = line_in in omega arith) in
      let there : row_at (with_row q.line row_2 rows_1) q.line ≡ row_2 = row_there q.line row_2 rows_1 at.line_low line_long in
      let long = long_put q.column character wide s.rendition row_1 in
      let full = long_row s.modes.insert in
      let high = at.column_high in
      let stands : StandsIn row_2 t character = record {
        at = q.column;
        low = at.column_low;
        high = omega arith;
        open_ = ap is_covered letter ∙ lettered_open character wide s.rendition;
        is = ap (λ (c : Cell). c.character) letter ∙ lettered_character character wide s.rendition;
        rendition = ap (λ (c : Cell). c.rendition) letter ∙ lettered_rendition character wide s.rendition;
        place = place;
        given = given;
      } in
      subst (λ (p : Picture). Stands (record s { picture = p; last = Some character }) character) (sym final_is) (subst (λ r. StandsIn r t character) (sym there) stands)

-- .. if it isn't dropped
keeps_shown : (b wide : Bool) (character : ℕ) (s : Console) (q : Picture) → overhangs wide q ≡ b → PictureFits q → Placed q → q.wrap ≡ false → IsGiven (set_in_use s.sets) character
    → Keeps (record s {
      picture = (if b then q else character_put character wide s.rendition s.modes.autowrap s.modes.insert q);
      last = (if b then None else Some character);
    })
keeps_shown true wide character s q over fits at unwrapped given = tt
keeps_shown false wide character s q over fits at unwrapped given = stands_put wide character s q fits at unwrapped over given

-- ---- a mark

module _ (mark column : ℕ) (row : List Cell) where
  abbrev with_it : List Cell
  with_it = mark_added column mark row

  marked_there : (k : ℕ) → 1 ≤ k → k ≤ length row → cell_at with_it k ≡ (if k == character_column column row then with_mark mark (cell_at row k) else cell_at row k)
  marked_there k low high = nth-table (blank Default) (length row) (λ j. if j == character_column column row then with_mark mark (cell_at row j) else cell_at row j) k low high

  same_if : (b : Bool) (k : ℕ) → is_covered (if b then with_mark mark (cell_at row k) else cell_at row k) ≡ is_covered (cell_at row k)
  same_if true k = marked_covered mark (cell_at row k)
  same_if false k = refl

  wide_if : (b : Bool) (k : ℕ) → is_wide (if b then with_mark mark (cell_at row k) else cell_at row k) ≡ is_wide (cell_at row k)
  wide_if true k = marked_wide mark (cell_at row k)
  wide_if false k = refl

  rendition_if : (b : Bool) (k : ℕ) → (if b then with_mark mark (cell_at row k) else cell_at row k).rendition ≡ (cell_at row k).rendition
  rendition_if true k = marked_rendition mark (cell_at row k)
  rendition_if false k = refl

  character_if : (b : Bool) (k : ℕ) → (if b then with_mark mark (cell_at row k) else cell_at row k).character ≡ (cell_at row k).character
  unfolding with_mark
  character_if true k = refl
  character_if false k = refl

  -- what stood there stands there
  stays_put : (s t : Console) (character : ℕ) → t.rendition ≡ s.rendition → t.modes.autowrap ≡ s.modes.autowrap → set_in_use t.sets ≡ set_in_use s.sets
      → t.picture.wrap ≡ s.picture.wrap → t.picture.column ≡ s.picture.column → t.picture.columns ≡ s.picture.columns
      → (s.picture.wrap ≡ false → column ≡ s.picture.column - 1) → 1 ≤ s.picture.column → s.picture.columns ≡ length row
      → StandsIn row s character → StandsIn with_it t character
  stays_put s t character rendition autowrap sets wrap at_column columns joins some full stands =
      let k = stands.at in
      let there = marked_there k stands.low stands.high in
      let b = k == character_column column row in
      let wide : is_wide (cell_at with_it k) ≡ is_wide (cell_at row k) = ap is_wide there ∙ wide_if b k in
      let end : end_of k with_it ≡ end_of k row = ap (λ c. if c then k + 1 else k) wide in
      let long = length-table (length row) (λ j. if j == character_column column row then with_mark mark (cell_at row j) else cell_at row j) in
      let within = stands.high in
      record {
        at = k;
        low = stands.low;
        high = omega arith;
        open_ = ap is_covered there ∙ same_if b k ∙ stands.open_;
        is = ap (λ (c : Cell). c.character) there ∙ character_if b k ∙ stands.is;
        rendition = ap (λ (c : Cell). c.rendition) there ∙ rendition_if b k ∙ stands.rendition ∙ sym rendition;
        place = elim stands.place [
          | inl pending ↦ inl (wrap ∙ pending.0, end ∙ pending.1 ∙ sym columns)
          | inr not_pending ↦ inr (elim not_pending [
            | inl left ↦ inl (wrap ∙ left.0, ap (λ j. j + 1) end ∙ left.1 ∙ sym at_column)
            | inr last ↦ inr (
              wrap ∙ last.0,
              autowrap ∙ last.1,
              at_column ∙ last.2 ∙ sym columns,
              end ∙ last.3 ∙ sym columns,
              λ narrow. bare stands.low (sym wide ∙ narrow) last.0 last.2 last.3 there (last.4 (sym wide ∙ narrow)),
            )
          ])
        ];
        given = subst (λ set. IsGiven set character) (sym sets) stands.given;
      }
    where
      bare : 1 ≤ stands.at → is_wide (cell_at row stands.at) ≡ false → s.picture.wrap ≡ false → s.picture.column ≡ s.picture.columns → end_of stands.at row ≡ s.picture.columns
          → cell_at with_it stands.at ≡ (if stands.at == character_column column row then with_mark mark (cell_at row stands.at) else cell_at row stands.at)
          → (cell_at row stands.at).marks ≡ [] → (cell_at with_it stands.at).marks ≡ []
      bare low narrow unwrapped here ends_there there none =
          let at : stands.at ≡ s.picture.columns = sym (ap (λ c. if c then stands.at + 1 else stands.at) narrow) ∙ ends_there in
          let before = joins unwrapped in
          let most : character_column column row ≤ column = elim (cases_Bool (is_covered (cell_at row column))) [
            | inl covered ↦ (let e : character_column column row ≡ column - 1 = ap (λ c. if c then column - 1 else column) covered in omega arith)
            | inr open_ ↦ (let e : character_column column row ≡ column = ap (λ c. if c then column - 1 else column) open_ in omega arith)
          ] in
          let apart : (stands.at == character_column column row) ≡ false = grind (arith, nat_tests) in
          ap (λ (c : Cell). c.marks) (there ∙ ap (λ c. if c then with_mark mark (cell_at row stands.at) else cell_at row stands.at) apart) ∙ none

module _ (mark : ℕ) (s : Console) (safe : IsSafe s) (fit : Fit s) where
  abbrev p : Picture
  p = s.picture

  line_there : p.line ≤ length p.rows
  line_there = let long = fit.picture.rows_long in let high = safe.sound.line_high in omega arith

  -- the last character under another mark
  keeps_under : (last : Option ℕ) → LastStands s last
      → LastStands (record s { picture = record p { rows = with_row p.line (mark_added (mark_column p) mark (row_at p.rows p.line)) p.rows } }) last
  keeps_under None stands = tt
  keeps_under (Some character) stands =
      let t : Console = record s { picture = record p { rows = with_row p.line (mark_added (mark_column p) mark (row_at p.rows p.line)) p.rows } } in
      let there : row_at t.picture.rows p.line ≡ mark_added (mark_column p) mark (row_at p.rows p.line)
      = row_there p.line (mark_added (mark_column p) mark (row_at p.rows p.line)) p.rows safe.sound.line_low line_there in
      subst (λ r. StandsIn r t character) (sym there)
      (stays_put mark (mark_column p) (row_at p.rows p.line) s t character refl refl refl refl refl refl
      (λ unwrapped. ap (λ b. if b then p.column else p.column - 1) unwrapped) safe.sound.column_low
      (sym (fit.picture.rows.full p.line safe.sound.line_low line_there)) stands)

  keeps_marked : (b : Bool) → Keeps s
      → Keeps (record s { picture = (if b then p else record p { rows = with_row p.line (mark_added (mark_column p) mark (row_at p.rows p.line)) p.rows }) })
  keeps_marked true stands = stands
  keeps_marked false stands = keeps_under s.last stands

-- ---- any character

module _ (laws : FitLaws) (s : Console) (safe : IsSafe s) (fit : Fit s) where
  keeps_by_width : (n character : ℕ) → IsGiven (set_in_use s.sets) character → Keeps s → Keeps (put_by_width n character s)
  keeps_by_width zero character given stands = keeps_marked character s safe fit (mark_column s.picture == 0) stands
  keeps_by_width (suc n) character given stands =
      let wide = n == 1 in
      let paper = s.rendition.paper in
      let q = made_ready wide s.modes.autowrap paper s.picture in
      let some = safe.sound.columns_low in
      let at : Placed s.picture = record { line_low = safe.sound.line_low; line_high = safe.sound.line_high; column_low = safe.sound.column_low; column_high = safe.sound.column_high } in
      keeps_shown (overhangs wide q) wide character s q refl (fits_ready laws.ascii wide s.modes.autowrap paper s.picture fit.rendition.paper fit.picture)
      (placed_ready wide s.modes.autowrap paper s.picture (omega arith) at) (ready_unwraps wide s.modes.autowrap paper s.picture).wrap given

  pub keeps_put : (character : ℕ) → IsGiven (set_in_use s.sets) character → Keeps s → Keeps (put character s)
  unfolding put
  keeps_put character given stands =
      keeps_if (is_c1 character) (forgotten s) (put_by_width (width character) character s) tt (keeps_by_width (width character) character given stands)
