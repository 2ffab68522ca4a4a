-- What the text of the sheets brings, with what was saved of them.
use Rattle.std.proofs.Common.{◌≡◌, ℕ, ◌+◌, ◌≤◌, Bool, true, false, List, [], ◌∷◌, ◌++◌, length, min, encode_utf8, refl, sym, ap, ap₂, subst, inl, ◌∙◌, lit<, arith}
use Rattle.std.proofs.Math.Dec.{lit≤}
use Rattle.std.specs.Prelude.{codes, Option, Some, None, if◌then◌else◌, ◌==◌, not}
use Rattle.std.proofs.lemmas.Bool.Decides.{nat_tests}
use Rattle.std.proofs.lemmas.Str.{encode_ascii}
use Rattle.characters.specs.Law.{AsciiIsNarrow}
use Rattle.vt_parser.specs.Syntax.{escape}
use Rattle.sheet.specs.declared.rendition.Colour.TheVariants.{Default}
use Rattle.sheet.specs.declared.rendition.Rendition.{Rendition}
use Rattle.sheet.specs.Cells.{Cell, blank, cell_at, lettered}
use Rattle.sheet.specs.Edits.{put as letter_put, written}
use Rattle.sheet.specs.Grid.{blank_row, blank_rows, row_at, with_row}
use Rattle.sheet.specs.Halves.{mended}
use Rattle.sheet.specs.Table.{table}
use Rattle.xterm_screen.specs.Moves.{placed}
use Rattle.xterm_screen.specs.Picture.{Picture}
use Rattle.xterm_term.specs.declared.saved.Saved.{Saved}
use Rattle.xterm_term.specs.declared.sets.Sets.{Sets}
use Rattle.xterm_term.specs.Console.{Console}
use Rattle.xterm_term.specs.Sets.{first_sets, set_in_use}
use Rattle.xterm_term.specs.Size.{IsSize}
use Rattle.xterm_escaped.specs.EscapedText.{lines_text, no_rendition, placed_text, rendition_set_text, text_where}
use Rattle.xterm_escaped.proofs.Cells.{IsByteRendition, LawsBelow, typed_leads}
use Rattle.xterm_escaped.proofs.Drawn.{mended_whole}
use Rattle.xterm_escaped.proofs.Fitting.{fits_blank_row}
use Rattle.xterm_escaped.proofs.FittingScreens.{RowsFit}
use Rattle.xterm_escaped.proofs.Led.{Leads, ended, leads_as}
use Rattle.xterm_escaped.proofs.LinesDrawn.{no_rows_to, rows_to, sheet_leads}
use Rattle.xterm_escaped.proofs.Shown.{drawing, letter_shown}
use Rattle.xterm_escaped.proofs.Tables.{length-table, nth-table, table_ext}
use Rattle.xterm_state.specs.StateText.{canvas_text, in_force_text, kept_text, saved_text, sets_of, sheet_text}
use Rattle.xterm_state.proofs.Brings.{Brings, digits_1047, joined, nothing_brings, private_brings}
use Rattle.xterm_state.proofs.Reached.{IsSavedIn}
use Rattle.xterm_state.proofs.Ways.{counted, counting, decsc_brings, goes_brings, in_force_brings, rendition_brings, uncounts, way}

plain_fits : IsByteRendition no_rendition
plain_fits = record { ink = tt; paper = tt }

-- ---- a space on a blank row

space_is_blank : lettered 32 false no_rendition ≡ blank Default
unfolding lettered blank
space_is_blank = refl

blank_there : (columns k : ℕ) → 1 ≤ k → k ≤ columns → cell_at (blank_row columns Default) k ≡ blank Default
blank_there columns k low high = nth-table (blank Default) columns (λ _. blank Default) k low high

either_cell : (b : Bool) (x y z : Cell) → x ≡ z → y ≡ z → (if b then x else y) ≡ z
either_cell true x y z one two = one
either_cell false x y z one two = two

either_row : (b : Bool) (x y z : List Cell) → x ≡ z → y ≡ z → (if b then x else y) ≡ z
either_row true x y z one two = one
either_row false x y z one two = two

space_written : (columns at : ℕ) → written at 32 false no_rendition (blank_row columns Default) ≡ blank_row columns Default
space_written columns at =
    ap (λ n. table n (λ k. if k == at then lettered 32 false no_rendition else cell_at (blank_row columns Default) k)) (length-table columns (λ _. blank Default))
    ∙ table_ext columns _ (λ _. blank Default) (λ k low high.
    either_cell (k == at) (lettered 32 false no_rendition) (cell_at (blank_row columns Default) k) (blank Default) space_is_blank (blank_there columns k low high))

space_put : AsciiIsNarrow → (columns at : ℕ) → letter_put at 32 false no_rendition (blank_row columns Default) ≡ blank_row columns Default
space_put ascii columns at =
    ap (mended Default) (space_written columns at)
    ∙ mended_whole Default (blank_row columns Default) (fits_blank_row ascii columns Default tt).whole

blank_stays : (columns lines line : ℕ) → 1 ≤ line → line ≤ lines → (row : List Cell) → row ≡ blank_row columns Default
    → with_row line row (blank_rows columns lines Default) ≡ blank_rows columns lines Default
blank_stays columns lines line low high row is =
    ap (λ n. table n (λ k. if k == line then row else row_at (blank_rows columns lines Default) k)) (length-table lines (λ _. blank_row columns Default))
    ∙ table_ext lines _ (λ _. blank_row columns Default) (λ k k_low k_high.
    either_row (k == line) row (row_at (blank_rows columns lines Default) k) (blank_row columns Default) is (nth-table [] lines (λ _. blank_row columns Default) k k_low k_high))

module _ (laws : LawsBelow) (ascii : AsciiIsNarrow) (columns lines : ℕ) (size : IsSize columns lines) (tabs : List Bool) where
  abbrev pub blanks : List (List Cell)
  blanks = blank_rows columns lines Default

  -- on the way, before the margins
  abbrev pub base : List (List Cell) → Bool → Option Saved → Option Saved → Console
  base other alternate main alternate_save = way columns lines tabs other alternate 1 lines main alternate_save

  -- a space at the last column, where a wrap is to be pending
  spaces : (c : Console) → c.picture.columns ≡ columns → c.modes.autowrap ≡ true → c.modes.insert ≡ false → c.title ≡ false → c.sets ≡ first_sets
      → (line column : ℕ) → 1 ≤ line → line ≤ lines → (wrap : Bool) → (wrap ≡ true → column ≡ columns)
      → Brings (drawing c blanks line column false no_rendition) (text_where wrap (codes " ")) (drawing c blanks line column wrap no_rendition)
  spaces c wide autowrap insert title sets line column low high false last = nothing_brings (drawing c blanks line column false no_rendition)
  spaces c wide autowrap insert title sets line column low high true last =
      let s : Console = drawing c blanks line column false no_rendition in
      let t : Console = drawing c blanks line column true no_rendition in
      let at : column ≡ c.picture.columns = last refl ∙ sym wide in
      let same : (column == c.picture.columns) ≡ true = grind (arith, nat_tests) in
      let there : min c.picture.columns (column + 1) ≡ column = omega arith in
      let row : letter_put column 32 false no_rendition (row_at blanks line) ≡ blank_row columns Default =
      ap (letter_put column 32 false no_rendition) (nth-table [] lines (λ _. blank_row columns Default) line low high) ∙ space_put ascii columns column in
      let rows = blank_stays columns lines line low high (letter_put column 32 false no_rendition (row_at blanks line)) row in
      record {
        leads = leads_as s t t (encode_utf8 32) (codes " ")
            (typed_leads laws s t 32 title (ap set_in_use sets) (inl refl)
            (λ l. (
              Some 32,
              letter_shown c blanks line column column no_rendition 32 false l (record { autowrap = autowrap; insert = insert }) refl (ascii 32 refl) refl (omega arith)
                  ∙ ap₂ (λ rs k. ended (Some 32) (drawing c rs line k (column == c.picture.columns) no_rendition)) rows there
                  ∙ ap (λ b. ended (Some 32) (drawing c blanks line column b no_rendition)) same,
            )))
            (encode_ascii 32 (lit< tt)) refl;
      }

  -- ---- what was saved

  placed_there : (origin : Bool) (line column from to : ℕ) (wrap : Bool) (c : Console) (rows : List (List Cell)) (r : Rendition) → c.picture.lines ≡ lines → c.picture.columns ≡ columns
      → c.picture.top ≡ 1 → c.picture.bottom ≡ lines → 1 ≤ line → line ≤ lines → column ≤ columns
      → placed line column origin (drawing c rows from to wrap r).picture ≡ (drawing c rows line column false r).picture
  placed_there true line column from to wrap c rows r long wide top bottom low high within =
      ap₂ (λ (l k : ℕ). let p : Picture = record (drawing c rows from to wrap r).picture { line = l; column = k; wrap = false } in p) (omega arith) (omega arith)
  placed_there false line column from to wrap c rows r long wide top bottom low high within =
      ap₂ (λ (l k : ℕ). let p : Picture = record (drawing c rows from to wrap r).picture { line = l; column = k; wrap = false } in p) (omega arith) (omega arith)

  module _ (other : List (List Cell)) (main alternate_save : Option Saved) where
    -- all before DECSC
    before_saved : (alternate : Bool) (saved : Saved) (l k : ℕ) (wrap : Bool) → 1 ≤ saved.line → 1 ≤ saved.column → IsSavedIn columns lines (Some saved) → IsByteRendition saved.rendition
        → Brings (drawing (base other alternate main alternate_save) blanks l k wrap no_rendition)
        (text_where saved.origin (escape ∷ codes "[?6h") ++ placed_text saved.line saved.column ++ text_where saved.wrap (codes " ") ++ in_force_text saved.rendition (sets_of saved))
        (drawing (counting saved.origin (sets_of saved) (base other alternate main alternate_save)) blanks saved.line saved.column saved.wrap saved.rendition)
    before_saved alternate saved l k wrap line_low column_low is colours =
        let wide = size.columns_high in let long = size.lines_high in
        let line_high = is.0 in let column_high = is.1 in
        let c : Console = base other alternate main alternate_save in
        let d : Console = counting saved.origin first_sets c in
        let first = counted laws c blanks l k wrap no_rendition saved.origin refl refl in
        let second = goes_brings laws d blanks first.0 first.1 first.2 no_rendition saved.line saved.column saved.line refl line_low (omega arith) column_low (omega arith)
        (placed_there saved.origin saved.line saved.column first.0 first.1 first.2 d blanks no_rendition refl refl refl refl line_low line_high column_high) in
        let third = spaces d refl refl refl refl refl saved.line saved.column line_low line_high saved.wrap is.2 in
        let fourth = in_force_brings laws d blanks saved.line saved.column saved.wrap no_rendition saved.rendition (sets_of saved) refl colours in
        joined (joined (joined first.3 second) third) fourth

    -- all of it taken back
    takes_back : (alternate : Bool) (origin wrap : Bool) (sets : Sets) (l k : ℕ) (r : Rendition)
        → Brings (drawing (counting origin sets (base other alternate main alternate_save)) blanks l k wrap r) canvas_text
        (drawing (base other alternate main alternate_save) blanks 1 1 false no_rendition)
    takes_back alternate origin wrap sets l k r =
        let c : Console = base other alternate main alternate_save in
        joined (uncounts laws (counting origin sets c) blanks l k wrap r refl)
        (in_force_brings laws (counting false sets c) blanks 1 1 false r no_rendition first_sets refl plain_fits)

  -- of the main sheet
  main_kept : (other : List (List Cell)) (saved : Saved) (l k : ℕ) (wrap : Bool) → 1 ≤ saved.line → 1 ≤ saved.column → IsSavedIn columns lines (Some saved) → IsByteRendition saved.rendition
      → Brings (drawing (base other false None None) blanks l k wrap no_rendition) (kept_text saved ++ canvas_text) (drawing (base other false (Some saved) None) blanks 1 1 false no_rendition)
  main_kept other saved l k wrap line_low column_low is colours =
      let there : Console = drawing (counting saved.origin (sets_of saved) (base other false None None)) blanks saved.line saved.column saved.wrap saved.rendition in
      joined (joined (before_saved other None None false saved l k wrap line_low column_low is colours) (decsc_brings there refl))
      (takes_back other (Some saved) None false saved.origin saved.wrap (sets_of saved) saved.line saved.column saved.rendition)

  -- of the alternate one
  alternate_kept : (other : List (List Cell)) (main : Option Saved) (saved : Saved) (l k : ℕ) (wrap : Bool) → 1 ≤ saved.line → 1 ≤ saved.column → IsSavedIn columns lines (Some saved)
      → IsByteRendition saved.rendition
      → Brings (drawing (base other true main None) blanks l k wrap no_rendition) (kept_text saved ++ canvas_text) (drawing (base other true main (Some saved)) blanks 1 1 false no_rendition)
  alternate_kept other main saved l k wrap line_low column_low is colours =
      let there : Console = drawing (counting saved.origin (sets_of saved) (base other true main None)) blanks saved.line saved.column saved.wrap saved.rendition in
      joined (joined (before_saved other main None true saved l k wrap line_low column_low is colours) (decsc_brings there refl))
      (takes_back other main (Some saved) true saved.origin saved.wrap (sets_of saved) saved.line saved.column saved.rendition)

  -- what a save is
  abbrev pub IsKept : Option Saved → Type 0
  IsKept None = Unit {0}
  IsKept (Some saved) = (1 ≤ saved.line) × (1 ≤ saved.column) × IsSavedIn columns lines (Some saved) × IsByteRendition saved.rendition

  main_saved : (other : List (List Cell)) (saved : Option Saved) (l k : ℕ) (wrap : Bool) → IsKept saved
      → Brings (drawing (base other false None None) blanks l k wrap no_rendition) (saved_text saved ++ canvas_text) (drawing (base other false saved None) blanks 1 1 false no_rendition)
  main_saved other None l k wrap is = takes_back other None None false false wrap first_sets l k no_rendition
  main_saved other (Some saved) l k wrap is = main_kept other saved l k wrap is.0 is.1 is.2 is.3

  alternate_saved : (other : List (List Cell)) (main saved : Option Saved) (l k : ℕ) (wrap : Bool) → IsKept saved
      → Brings (drawing (base other true main None) blanks l k wrap no_rendition) (saved_text saved ++ canvas_text) (drawing (base other true main saved) blanks 1 1 false no_rendition)
  alternate_saved other main None l k wrap is = takes_back other main None true false wrap first_sets l k no_rendition
  alternate_saved other main (Some saved) l k wrap is = alternate_kept other main saved l k wrap is.0 is.1 is.2 is.3

  -- ---- lines

  record Drawn (c : Console) (rows : List (List Cell)) : Type 0 where
    at : ℕ
    column : ℕ
    wrap : Bool
    rendition : Rendition
    brings : Brings (drawing c blanks 1 1 false no_rendition) (lines_text no_rendition 1 rows) (drawing c rows at column wrap rendition)

  lines_drawn : (other : List (List Cell)) (alternate : Bool) (main alternate_save : Option Saved) (rows : List (List Cell)) → RowsFit columns rows → length rows ≡ lines
      → Drawn (base other alternate main alternate_save) rows
  lines_drawn other alternate main alternate_save rows all long =
      let wide = size.columns_high in let high = size.lines_high in
      let c : Console = base other alternate main alternate_save in
      let sheet = sheet_leads laws ascii c (record { canvas = record { autowrap = refl; insert = refl }; title = refl; set = refl }) refl
      (omega arith) (omega arith) size.columns_low rows all (omega arith) in
      let blank : blanks ≡ rows_to 0 columns rows = no_rows_to columns lines rows long in
      record {
        at = sheet.at;
        column = sheet.column;
        wrap = sheet.wrap;
        rendition = sheet.rendition;
        brings = record {
          leads = subst (λ (rs : List (List Cell)). Leads (drawing c rs 1 1 false no_rendition) (lines_text no_rendition 1 rows) (drawing c rows sheet.at sheet.column sheet.wrap sheet.rendition))
              (sym blank) sheet.leads;
        };
      }

  -- ---- both sheets

  -- DECSET and DECRST 1047
  turns_to : (main : List (List Cell)) (save : Option Saved) (l k : ℕ) (wrap : Bool)
      → Brings (drawing (base blanks false save None) main l k wrap no_rendition) (escape ∷ codes "[?1047h") (drawing (base main true save None) blanks l k wrap no_rendition)
  turns_to main save l k wrap =
      private_brings laws (drawing (base blanks false save None) main l k wrap no_rendition) (drawing (base main true save None) blanks l k wrap no_rendition)
      1047 104 (49 ∷ 48 ∷ 52 ∷ 55 ∷ []) digits_1047 (lit≤ tt) refl refl (λ l. refl)

  turns_back : (main alternate : List (List Cell)) (save other : Option Saved) (l k : ℕ) (wrap : Bool) (r : Rendition)
      → Brings (drawing (base main true save other) alternate l k wrap r) (escape ∷ codes "[?1047l") (drawing (base alternate false save other) main l k wrap r)
  turns_back main alternate save other l k wrap r =
      private_brings laws (drawing (base main true save other) alternate l k wrap r) (drawing (base alternate false save other) main l k wrap r)
      1047 108 (49 ∷ 48 ∷ 52 ∷ 55 ∷ []) digits_1047 (lit≤ tt) refl refl (λ l. refl)

  pub record SheetsDrawn (rows other : List (List Cell)) (alternate : Bool) (save alternate_save : Option Saved) (column : ℕ) : Type 0 where
    pub at : ℕ
    pub after : ℕ
    pub wrap : Bool
    pub rendition : Rendition
    pub brings : Brings (drawing (base blanks false None None) blanks 1 column false no_rendition)
        (sheet_text save (if alternate then other else rows) ++ rendition_set_text no_rendition ++ escape ∷ codes "[?1047h"
        ++ sheet_text alternate_save (if alternate then rows else other) ++ text_where (not alternate) (escape ∷ codes "[?1047l"))
        (drawing (base other alternate save alternate_save) rows at after wrap rendition)

  -- up to the alternate sheet
  record BothDrawn (main alternate : List (List Cell)) (save alternate_save : Option Saved) (column : ℕ) : Type 0 where
    at : ℕ
    after : ℕ
    wrap : Bool
    rendition : Rendition
    brings : Brings (drawing (base blanks false None None) blanks 1 column false no_rendition)
        (sheet_text save main ++ rendition_set_text no_rendition ++ escape ∷ codes "[?1047h" ++ sheet_text alternate_save alternate)
        (drawing (base main true save alternate_save) alternate at after wrap rendition)

  both_drawn : (main alternate : List (List Cell)) (save alternate_save : Option Saved) (column : ℕ) → IsKept save → IsKept alternate_save
      → RowsFit columns main → RowsFit columns alternate → length main ≡ lines → length alternate ≡ lines → BothDrawn main alternate save alternate_save column
  both_drawn main alternate save alternate_save column kept alternate_kept_ main_fits alternate_fits main_long alternate_long =
      let first = main_saved blanks save 1 column false kept in
      let second = lines_drawn blanks false save None main main_fits main_long in
      let third = rendition_brings laws (base blanks false save None) main second.at second.column second.wrap second.rendition no_rendition refl plain_fits in
      let fourth = turns_to main save second.at second.column second.wrap in
      let fifth = alternate_saved main save alternate_save second.at second.column second.wrap alternate_kept_ in
      let sixth = lines_drawn main true save alternate_save alternate alternate_fits alternate_long in
      record {
        at = sixth.at;
        after = sixth.column;
        wrap = sixth.wrap;
        rendition = sixth.rendition;
        brings = joined (joined (joined (joined first second.brings) third) fourth)
            (joined fifth sixth.brings);
      }

  pub sheets_drawn : (rows other : List (List Cell)) (alternate : Bool) (save alternate_save : Option Saved) (column : ℕ) → IsKept save → IsKept alternate_save
      → RowsFit columns rows → RowsFit columns other → length rows ≡ lines → length other ≡ lines → SheetsDrawn rows other alternate save alternate_save column
  sheets_drawn rows other true save alternate_save column kept alternate_kept_ rows_fit other_fit rows_long other_long =
      let both = both_drawn other rows save alternate_save column kept alternate_kept_ other_fit rows_fit other_long rows_long in
      record { at = both.at; after = both.after; wrap = both.wrap; rendition = both.rendition; brings = joined both.brings (nothing_brings _) }
  sheets_drawn rows other false save alternate_save column kept alternate_kept_ rows_fit other_fit rows_long other_long =
      let both = both_drawn rows other save alternate_save column kept alternate_kept_ rows_fit other_fit rows_long other_long in
      record {
        at = both.at;
        after = both.after;
        wrap = both.wrap;
        rendition = both.rendition;
        brings = joined both.brings (turns_back rows other save alternate_save both.at both.after both.wrap both.rendition);
      }
