-- What the text behind the sheets brings.
use Rattle.std.proofs.Common.{◌≡◌, ◌⊎◌, ℕ, ◌+◌, ◌-◌, ◌<◌, ◌≤◌, Bool, true, false, List, [], ◌∷◌, ◌++◌, length, min, refl, sym, ap, ap₂, inl, inr, ◌∙◌, lit<, arith}
use Rattle.std.specs.Prelude.{decimal, Option, Some, None, if◌then◌else◌, ◌==◌, ◌&&◌}
use Rattle.std.proofs.lemmas.Bool.{cases_Bool, cases_eq, cases_lt, false≢true}
use Rattle.std.proofs.lemmas.Bool.Decides.{nat_tests}
use Rattle.characters.specs.Law.{AsciiIsNarrow}
use Rattle.vt_parser.specs.Decimals.{params_text}
use Rattle.vt_parser.specs.Syntax.{escape}
use Rattle.sheet.specs.declared.rendition.Colour.TheVariants.{Default}
use Rattle.sheet.specs.declared.rendition.Rendition.{Rendition}
use Rattle.sheet.specs.Cells.{Cell, cell_at, is_covered, is_wide}
use Rattle.sheet.specs.Edits.{character_column}
use Rattle.sheet.specs.Grid.{row_at}
use Rattle.sheet.specs.Halves.{Whole}
use Rattle.xterm_rows.specs.RowText.{printed}
use Rattle.xterm_screen.specs.Margins.{are_margins, margins_set}
use Rattle.xterm_screen.specs.Moves.{moved_home, placed}
use Rattle.xterm_screen.specs.Picture.{Picture}
use Rattle.xterm_term.specs.declared.saved.Saved.{Saved}
use Rattle.xterm_term.specs.declared.sets.CharacterSet.{CharacterSet}
use Rattle.xterm_term.specs.declared.sets.CharacterSet.TheVariants.{Ascii}
use Rattle.xterm_term.specs.Console.{Console, IsSafe, on_picture}
use Rattle.xterm_term.specs.Replies.{reported_line}
use Rattle.xterm_term.specs.Sequences.{param_or}
use Rattle.xterm_term.specs.Sets.{character_of, first_sets, set_in_use}
use Rattle.xterm_term.proofs.Runs.{on_ground}
use Rattle.xterm_escaped.specs.EscapedText.{text_where}
use Rattle.xterm_escaped.proofs.Cells.{LawsBelow}
use Rattle.xterm_escaped.proofs.Drawn.{blank_narrow, blank_open, cell_outside, end_of}
use Rattle.xterm_escaped.proofs.Fitting.{Fits, wide_open}
use Rattle.xterm_escaped.proofs.FittingTerms.{Fit}
use Rattle.xterm_escaped.proofs.Led.{ended, leads_as, sequence_leads}
use Rattle.xterm_escaped.proofs.Lines.{first_given, grouped, short_place}
use Rattle.xterm_escaped.proofs.LinesDrawn.{row_is}
use Rattle.xterm_escaped.proofs.Params.{are_params, low_text}
use Rattle.xterm_escaped.proofs.Redrawing.{IsLetter}
use Rattle.xterm_escaped.proofs.Shown.{drawing}
use Rattle.xterm_state.specs.StateText.{begin_of, cell_of, column_text, cursor_text, in_force_text, margins_text, modes_text, wrapped_text}
use Rattle.xterm_state.proofs.Again.{IsGiven, again_settles}
use Rattle.xterm_state.proofs.Brings.{Brings, Settles, brings_as, joined, nothing_brings, settled}
use Rattle.xterm_state.proofs.Modes.{modes_settle}
use Rattle.xterm_state.proofs.Reached.{Reached}
use Rattle.xterm_state.proofs.Ways.{counted, counting, goes_brings, in_force_brings, rendition_brings, way}

-- ---- the character that lies at a column

-- it begins there or one column left of it
pub record Lies (row : List Cell) (column : ℕ) : Type 0 where
  pub low : 1 ≤ character_column column row
  pub high : character_column column row ≤ length row
  pub open_ : is_covered (cell_at row (character_column column row)) ≡ false

pub lies : (row : List Cell) → Whole row → (column : ℕ) → 1 ≤ column → column ≤ length row → Lies row column
lies row whole column low high = record {
  low = elim (cases_Bool (is_covered (cell_at row column))) [
    | inl covered ↦ (let e : character_column column row ≡ column - 1 = ap (λ b. if b then column - 1 else column) covered in elim (cases_eq column 1) [
      | inl first ↦ absurd (false≢true (sym (none_covers first) ∙ covered))
      | inr more ↦ omega arith
    ])
    | inr open_ ↦ (let e : character_column column row ≡ column = ap (λ b. if b then column - 1 else column) open_ in omega arith)
  ];
  high = elim (cases_Bool (is_covered (cell_at row column))) [
    | inl covered ↦ (let e : character_column column row ≡ column - 1 = ap (λ b. if b then column - 1 else column) covered in omega arith)
    | inr open_ ↦ (let e : character_column column row ≡ column = ap (λ b. if b then column - 1 else column) open_ in omega arith)
  ];
  open_ = character_open_ low;
}
  where
    none_covers : column ≡ 1 → is_covered (cell_at row column) ≡ false
    none_covers first =
        ap (λ k. is_covered (cell_at row k)) first ∙ whole 0 ∙ ap is_wide (cell_outside row 0 (λ some. absurd (omega arith)))
        ∙ blank_narrow Default

    character_open_ : 1 ≤ column → is_covered (cell_at row (character_column column row)) ≡ false
    character_open_ some = elim (cases_Bool (is_covered (cell_at row column))) [
      | inl covered ↦ (let next : column - 1 + 1 ≡ column = omega arith in
          let left : is_wide (cell_at row (column - 1)) ≡ true = sym (whole (column - 1)) ∙ ap (λ j. is_covered (cell_at row j)) next ∙ covered in
          ap (λ b. is_covered (cell_at row (if b then column - 1 else column))) covered ∙ wide_open (cell_at row (column - 1)) left)
      | inr open_ ↦ ap (λ b. is_covered (cell_at row (if b then column - 1 else column))) open_ ∙ open_
    ]

-- at the last column it ends there
pub ends_last : (row : List Cell) → Whole row → (column : ℕ) → 1 ≤ column → column ≡ length row → end_of (character_column column row) row ≡ column
ends_last row whole column low is = elim (cases_Bool (is_covered (cell_at row column))) [
  | inl covered ↦ (let next : column - 1 + 1 ≡ column = omega arith in
      let left : is_wide (cell_at row (column - 1)) ≡ true = sym (whole (column - 1)) ∙ ap (λ j. is_covered (cell_at row j)) next ∙ covered in
      ap (λ b. end_of (if b then column - 1 else column) row) covered ∙ ap (λ b. if b then column - 1 + 1 else column - 1) left ∙ next)
  | inr open_ ↦ (let right : is_wide (cell_at row column) ≡ false =
      sym (whole column) ∙ ap is_covered (cell_outside row (column + 1) (λ some. omega arith)) ∙ blank_open Default in
      ap (λ b. end_of (if b then column - 1 else column) row) open_ ∙ ap (λ b. if b then column + 1 else column) right)
]

ascii_given : (character : ℕ) (set : CharacterSet) → set ≡ Ascii → character_of set character ≡ character
unfolding character_of
ascii_given character set is = ap (λ s. character_of s character) is

pub letter_given : (set : CharacterSet) (cell : Cell) → set ≡ Ascii → IsLetter cell → IsGiven set cell.character
letter_given set cell is letter = elim letter.typed [
  | inl graphic ↦ inl (graphic, ascii_given cell.character set is)
  | inr spells ↦ inr spells
]

-- ---- margins

bottom_given : (top bottom default : ℕ) → 1 ≤ bottom → param_or (top ∷ bottom ∷ []) 1 default ≡ bottom
bottom_given top bottom default low = let test : (bottom == 0) ≡ false = grind (arith, nat_tests) in simp test

module _ (laws : LawsBelow) (columns lines : ℕ) (tabs : List Bool) (other : List (List Cell)) (alternate : Bool) (main alternate_save : Option Saved) (rows : List (List Cell)) where
  abbrev within : ℕ → ℕ → Console
  within top bottom = way columns lines tabs other alternate top bottom main alternate_save

  record Margined (top bottom l k : ℕ) (wrap : Bool) (r : Rendition) : Type 0 where
    at : ℕ
    column : ℕ
    pending : Bool
    brings : Brings (drawing (within 1 lines) rows l k wrap r) (margins_text top bottom) (drawing (within top bottom) rows at column pending r)

  -- DECSTBM, and what it comes to
  decstbm : (top bottom l k : ℕ) (wrap : Bool) (r : Rendition) (p : Picture) → 1 ≤ top → 1 ≤ bottom → top ≤ 9999 → bottom ≤ 9999
      → margins_set top bottom false (drawing (within 1 lines) rows l k wrap r).picture ≡ p
      → Brings (drawing (within 1 lines) rows l k wrap r) (margins_text top bottom) (record (drawing (within 1 lines) rows l k wrap r) { picture = p })
  decstbm top bottom l k wrap r p top_low bottom_low top_high bottom_high is =
      let s : Console = drawing (within 1 lines) rows l k wrap r in
      let t : Console = record s { picture = p } in
      let numbers : List ℕ = top ∷ bottom ∷ [] in
      let short = short_place top bottom top_high bottom_high in
      record {
        leads = leads_as s t t (escape ∷ 91 ∷ (params_text numbers ++ 114 ∷ [])) _
            (sequence_leads laws.sequences s t numbers 114 refl (are_params numbers (lit< tt) short) (low_text numbers short.all) refl
            (λ last. ap₂ (λ (a b : ℕ). on_picture (margins_set a b false) (ended last s)) (first_given top bottom top_low) (bottom_given top bottom lines bottom_low)
            ∙ ap (λ (q : Picture). let u : Console = record (ended last s) { picture = q } in u) is)
            (λ last. refl))
            (ap (λ text. escape ∷ 91 ∷ (text ++ 114 ∷ [])) (sym (grouped (decimal top) (decimal bottom)))) refl;
      }

  margins_bring : (top bottom l k : ℕ) (wrap : Bool) (r : Rendition) → 1 ≤ top → top ≤ bottom → bottom ≤ lines → lines ≤ 9999 → (top < bottom) ⊎ ((top ≡ 1) × (bottom ≡ lines))
      → Margined top bottom l k wrap r
  margins_bring top bottom l k wrap r low apart high few margined =
      let p : Picture = (drawing (within 1 lines) rows l k wrap r).picture in
      elim (cases_lt top bottom) [
        | inl less ↦ (let is : are_margins top bottom lines ≡ true = grind (arith, nat_tests) in let least : min bottom lines ≡ bottom = omega arith in
            record {
              at = 1;
              column = 1;
              pending = false;
              brings = decstbm top bottom l k wrap r (drawing (within top bottom) rows 1 1 false r).picture low (omega arith) (omega arith) (omega arith)
                  (ap (λ b. if b then moved_home false (record p { top = top; bottom = min bottom lines }) else p) is
                  ∙ ap (λ b. moved_home false (record p { top = top; bottom = b })) least);
            })
        | inr all ↦ (let ends : (top ≡ 1) × (bottom ≡ lines) = whole_of margined all in
            let first = ends.0 in let last = ends.1 in
            let is : are_margins top bottom lines ≡ false = grind (arith, nat_tests) in
            record {
              at = l;
              column = k;
              pending = wrap;
              brings = brings_as
                  (decstbm top bottom l k wrap r p low (omega arith) (omega arith) (omega arith)
                  (ap (λ b. if b then moved_home false (record p { top = top; bottom = min bottom lines }) else p) is))
                  refl (ap₂ (λ t b. drawing (within t b) rows l k wrap r) (sym first) (sym last));
            })
      ]
    where
      whole_of : (top < bottom) ⊎ ((top ≡ 1) × (bottom ≡ lines)) → bottom ≤ top → (top ≡ 1) × (bottom ≡ lines)
      whole_of (inl less) all = absurd (omega arith)
      whole_of (inr is) all = is

-- ---- the cursor

pub reported_there : (origin : Bool) (line column top bottom lines columns : ℕ) (p : Picture) → p.lines ≡ lines → p.columns ≡ columns → p.top ≡ top → p.bottom ≡ bottom → 1 ≤ top → line ≤ lines → column ≤ columns
    → (origin ≡ true → (top ≤ line) × (line ≤ bottom))
    → placed (reported_line origin line top) column origin p ≡ record p { line = line; column = column; wrap = false }
reported_there true line column top bottom lines columns p long wide high low some within fits inside =
    let above = (inside refl).0 in let below = (inside refl).1 in
    ap₂ (λ (l k : ℕ). let q : Picture = record p { line = l; column = k; wrap = false } in q) (omega arith) (omega arith)
reported_there false line column top bottom lines columns p long wide high low some within fits inside =
    ap₂ (λ (l k : ℕ). let q : Picture = record p { line = l; column = k; wrap = false } in q) (omega arith) (omega arith)

pub reported_low : (origin : Bool) (line top : ℕ) → 1 ≤ line → (origin ≡ true → top ≤ line) → 1 ≤ top → 1 ≤ reported_line origin line top
reported_low true line top some inside low = let above = inside refl in omega arith
reported_low false line top some inside low = some

pub reported_high : (origin : Bool) (line top : ℕ) → line ≤ 500 → reported_line origin line top ≤ 9999
reported_high true line top few = omega arith
reported_high false line top few = omega arith

module _ (laws : LawsBelow) (ascii : AsciiIsNarrow) (s : Console) (safe : IsSafe s) (fit : Fit s) (reached : Reached s) where
  abbrev p : Picture
  p = s.picture

  abbrev row : List Cell
  row = row_at p.rows p.line

  row_fits : Fits row
  row_fits = fit.picture.rows.fit p.line

  line_within : p.line ≤ length p.rows
  line_within = let long = fit.picture.rows_long in let high = safe.sound.line_high in omega arith

  row_full : length row ≡ p.columns
  row_full = fit.picture.rows.full p.line safe.sound.line_low line_within

  inside : s.modes.origin ≡ true → (p.top ≤ p.line) × (p.line ≤ p.bottom)
  inside is = let region = safe.inside is in (region.below_top, region.above_bottom)

  -- the way, with the margins and DECOM
  abbrev d : Console
  d = counting s.modes.origin first_sets (way p.columns p.lines p.tabs p.other p.alternate p.top p.bottom s.main_saved s.alternate_saved)

  -- CUP to a column of the cursor's line, from any place
  pub column_brings : (c : Console) (l k column : ℕ) (wrap : Bool) (r : Rendition) → c.title ≡ false → c.modes.origin ≡ s.modes.origin → c.picture.lines ≡ p.lines → c.picture.columns ≡ p.columns
      → c.picture.top ≡ p.top → c.picture.bottom ≡ p.bottom → 1 ≤ column → column ≤ p.columns
      → Brings (drawing c p.rows l k wrap r) (column_text s.modes.origin p column) (drawing c p.rows p.line column false r)
  column_brings c l k column wrap r title origin long wide top bottom low high =
      let few = safe.sound.lines_high in let line_high = safe.sound.line_high in let columns_high = safe.sound.columns_high in
      goes_brings laws c p.rows l k wrap r (reported_line s.modes.origin p.line p.top) column p.line title
      (reported_low s.modes.origin p.line p.top safe.sound.line_low (λ is. (inside is).0) safe.sound.top_low)
      (reported_high s.modes.origin p.line p.top (omega arith)) low (omega arith)
      (ap (λ o. placed (reported_line s.modes.origin p.line p.top) column o (drawing c p.rows l k wrap r).picture) origin
      ∙ reported_there s.modes.origin p.line column p.top p.bottom p.lines p.columns (drawing c p.rows l k wrap r).picture long wide top bottom safe.sound.top_low safe.sound.line_high high inside)

  -- the character at the last column
  wrapped_brings : (r : Rendition) (column : ℕ) → column ≡ p.columns
      → Brings (drawing d p.rows p.line column false r) (wrapped_text s.modes.origin p) (drawing d p.rows p.line column true (cell_of p p.columns).rendition)
  wrapped_brings r column at_last =
      let some = safe.sound.columns_low in
      let full = row_full in
      let at = begin_of p p.columns in
      let cell = cell_of p p.columns in
      let it = lies row row_fits.whole p.columns (omega arith) (omega arith) in
      let is = row_is row row_fits in
      let ends = ends_last row row_fits.whole p.columns (omega arith) (sym full) in
      let letter = is.letters at it.low it.high it.open_ in
      let at_high = it.high in
      let first = rendition_brings laws d p.rows p.line column false r cell.rendition refl (is.colours at) in
      let second = column_brings d p.line column at false cell.rendition refl refl refl refl refl refl it.low (omega arith) in
      let third = again_settles laws ascii d refl p.rows p.line safe.sound.line_low line_within row_fits.whole full at it.low it.high it.open_ (is.covers at) letter
      (letter_given (set_in_use d.sets) cell refl letter) false refl (λ stays. absurd (false≢true (sym stays))) in
      let there : min p.columns (end_of at row + 1) ≡ column = omega arith in
      let wraps : (end_of at row == p.columns) ≡ true = grind (arith, nat_tests) in
      let same : drawing d p.rows p.line (min p.columns (end_of at row + 1)) ((end_of at row == p.columns) && true) cell.rendition ≡ drawing d p.rows p.line column true cell.rendition
      = ap₂ (λ k b. drawing d p.rows p.line k (b && true) cell.rendition) there wraps in
      let again : Brings (drawing d p.rows p.line at false cell.rendition) (printed cell) (drawing d p.rows p.line column true cell.rendition) = record {
        leads = λ l reports. (Some cell.character, third.played l reports ∙ ap (λ (c : Console). on_ground (ended (Some cell.character) c) reports) same);
      } in
      joined (joined first second) again

  wraps_if : (r : Rendition) (wrap : Bool) → p.wrap ≡ wrap
      → (after : Rendition) × Brings (drawing d p.rows p.line p.column false r) (text_where wrap (wrapped_text s.modes.origin p)) (drawing d p.rows p.line p.column wrap after)
  wraps_if r true is = ((cell_of p p.columns).rendition, wrapped_brings r p.column (reached.wraps is).0)
  wraps_if r false is = (r, nothing_brings (drawing d p.rows p.line p.column false r))

  -- all but the last character and a title
  pub closing_settles : (l k : ℕ) (wrap : Bool) (r : Rendition)
      → Settles (drawing (way p.columns p.lines p.tabs p.other p.alternate 1 p.lines s.main_saved s.alternate_saved) p.rows l k wrap r)
      (margins_text p.top p.bottom ++ cursor_text s.modes.origin p ++ in_force_text s.rendition s.sets ++ modes_text s.modes)
      (record s { last = None; title = false })
  closing_settles l k wrap r =
      let few = safe.sound.lines_high in
      let margins = margins_bring laws p.columns p.lines p.tabs p.other p.alternate s.main_saved s.alternate_saved p.rows p.top p.bottom l k wrap r
      safe.sound.top_low safe.sound.apart safe.sound.bottom_high (omega arith) reached.margins in
      let m : Console = way p.columns p.lines p.tabs p.other p.alternate p.top p.bottom s.main_saved s.alternate_saved in
      let origin = counted laws m p.rows margins.at margins.column margins.pending r s.modes.origin refl refl in
      let cursor = column_brings d origin.0 origin.1 p.column origin.2 r refl refl refl refl refl refl safe.sound.column_low safe.sound.column_high in
      let wraps = wraps_if r p.wrap refl in
      let force = in_force_brings laws d p.rows p.line p.column p.wrap wraps.0 s.rendition s.sets refl fit.rendition in
      let modes = modes_settle laws (record s { last = None; title = false }) s.modes refl none in
      settled (joined (joined margins.brings (joined (joined origin.3 cursor) wraps.1)) force) modes
    where
      none : s.modes.autowrap ≡ false → p.wrap ≡ false
      none stays = elim (cases_Bool p.wrap) [
        | inl wrap_ ↦ absurd (false≢true (sym stays ∙ (reached.wraps wrap_).1))
        | inr unwrapped ↦ unwrapped
      ]
