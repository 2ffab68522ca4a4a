-- The rows of a screen, and the text of one.
use Rattle.std.proofs.Common.{◌≡◌, ℕ, zero, suc, ◌+◌, ◌-◌, ◌<◌, ◌≤◌, Bool, true, List, [], ◌∷◌, ◌++◌, length, take, drop, get_or, refl, sym, ap, ap₂, ◌∙◌, subst, arith}
use Rattle.std.specs.Prelude.{Option}
use Rattle.std.specs.List.{flat_map, list_all, suffix_len}
use Rattle.std.proofs.lemmas.Bool.{and_parts}
use Rattle.std.proofs.lemmas.Bool.Decides.{nat_tests}
use Rattle.std.proofs.lemmas.Grind.{common_steps}
use Rattle.std.proofs.lemmas.Str.{length-encode}
use Rattle.std.proofs.lemmas.List.{get_or-map, length-append, length-map, take-append-drop, take-take, take_all, take_more}
use Rattle.screen_rows.specs.Glyphs.{character}
use Rattle.screen_rows.specs.Plain.{glyphs_of}
use Rattle.screen_rows.specs.RowText.{is_space, printed, printed_line, trimmed}
use Rattle.tape_core.specs.declared.devices.Watched.{Watched}
use Rattle.transcripts.specs.Told.{Back, Tells, TellsFront}
use Rattle.transcripts.specs.Transcript.{without_blank_end}
use Rattle.transcripts.proofs.RowLemmas.{end_blank, end_ink}
use Rattle.vt_parser.specs.Syntax.{is_graphic}
use Rattle.vt_screen.specs.declared.cell.Cell.{Cell}
use Rattle.vt_screen.specs.declared.cell.Row.{Row}
use Rattle.vt_screen.specs.Cells.{blank_row, row_at}
use Rattle.vt_screen.specs.Picture.{Picture, margin_of}
use Rattle.vt_screen.specs.Table.{nth}
use Rattle.vt_term.specs.declared.profile.Profile.{Profile}
use Rattle.vt_term.specs.Console.{Console, IsSafe}
use Rattle.screen_transcript.specs.declared.transcriber.Transcriber.{Transcriber}
use Rattle.screen_transcript.specs.Playing.{IsPlayed}
use Rattle.screen_transcript.specs.Transcribed.{play_on, reset_as, standing_rows}
use Rattle.screen_transcript.specs.Rows.{all_rows, inked_rows, row_printed}

-- ---- row by row

pub row_next : (p : Picture) (line : ℕ) → line < length p.rows
    → take (line + 1) (all_rows p) ≡ take line (all_rows p) ++ row_printed p.wide (row_at p.rows (line + 1)) ∷ []
unfolding nth
row_next p line lt =
    let there : line + 1 - 1 ≡ line = omega arith in
    take_more (all_rows p) line [] (omega (arith, lt, length-map p.rows (row_printed p.wide)))
    ∙ ap (λ r. take line (all_rows p) ++ r ∷ [])
    (get_or-map (row_printed p.wide) p.rows line blank_row [] lt ∙ ap (λ k. row_printed p.wide (get_or p.rows k blank_row)) (sym there))

-- those up to a blank one, and to one with ink
pub blank_last : (p : Picture) (line count : ℕ) → count ≡ line + 1 → line < length p.rows → row_printed p.wide (row_at p.rows count) ≡ []
    → without_blank_end (take line (all_rows p)) ≡ without_blank_end (take count (all_rows p))
blank_last p line count is lt blank =
    let last : row_printed p.wide (row_at p.rows (line + 1)) ≡ [] = ap (λ k. row_printed p.wide (row_at p.rows k)) (sym is) ∙ blank in
    sym (end_blank (take line (all_rows p)))
    ∙ sym (ap without_blank_end (row_next p line lt ∙ ap (λ r. take line (all_rows p) ++ r ∷ []) last))
    ∙ ap (λ k. without_blank_end (take k (all_rows p))) (sym is)

inked_end : (rows : List (List ℕ)) (text : List ℕ) → 0 < length text → without_blank_end (rows ++ text ∷ []) ≡ rows ++ text ∷ []
inked_end rows [] some = absurd (omega arith)
inked_end rows (byte ∷ text) some = end_ink rows byte text

pub inked_last : (p : Picture) (line count : ℕ) → count ≡ line + 1 → line < length p.rows → 0 < length (row_printed p.wide (row_at p.rows count))
    → take count (all_rows p) ≡ without_blank_end (take count (all_rows p))
inked_last p line count is lt some =
    let last = row_printed p.wide (row_at p.rows (line + 1)) in
    let more = row_next p line lt in
    let ink : 0 < length last = subst (λ k. 0 < length (row_printed p.wide (row_at p.rows k))) is some in
    ap (λ k. take k (all_rows p)) is ∙ more
    ∙ sym (ap (λ k. without_blank_end (take k (all_rows p))) is ∙ ap without_blank_end more ∙ inked_end (take line (all_rows p)) last ink)

-- all rows
pub all_taken : (p : Picture) → length p.rows ≡ 24 → without_blank_end (take 24 (all_rows p)) ≡ inked_rows p
all_taken p long = ap without_blank_end (take_all 24 (all_rows p) (omega (arith, length-map p.rows (row_printed p.wide), long)))

-- ---- the text of a row

-- without LF
pub line_cut : (wide : Bool) (row : Row) → take (length (printed_line wide row) - 1) (printed_line wide row) ≡ row_printed wide row
unfolding printed_line row_printed
line_cut wide row = grind (arith, common_steps)

pub line_long : (wide : Bool) (row : Row) → length (printed_line wide row) ≡ length (row_printed wide row) + 1
unfolding printed_line row_printed
line_long wide row = grind (arith, common_steps)

-- characters of ASCII are their glyphs
ascii_printed : (cell : Cell) → is_graphic cell.glyph ≡ true → printed cell ≡ cell.glyph ∷ []
ascii_printed cell graphic = grind (arith, nat_tests, common_steps)

pub ascii_all : (cells : List Cell) → list_all is_graphic (glyphs_of cells) ≡ true → glyphs_of cells ≡ flat_map printed cells
ascii_all [] graphic = refl
ascii_all (cell ∷ cells) graphic =
    let parts = and_parts (is_graphic cell.glyph) (list_all is_graphic (glyphs_of cells)) graphic in
    ap₂ (λ (l m : List ℕ). l ++ m) (sym (ascii_printed cell parts.0)) (ascii_all cells parts.1)

pub glyphs_taken : (n : ℕ) (cells : List Cell) → take n (glyphs_of cells) ≡ glyphs_of (take n cells)
glyphs_taken zero cells = refl
glyphs_taken (suc n) [] = refl
glyphs_taken (suc n) (cell ∷ cells) = ap (λ l. cell.glyph ∷ l) (glyphs_taken n cells)

front_of_front : (k m : ℕ) (cells : List Cell) → take (length (take k (take m cells))) cells ≡ take k (take m cells)
front_of_front zero m cells = refl
front_of_front (suc k) zero cells = refl
front_of_front (suc k) (suc m) [] = refl
front_of_front (suc k) (suc m) (cell ∷ cells) = ap (λ l. cell ∷ l) (front_of_front k m cells)

pub ascii_row : (wide : Bool) (row : Row) (n : ℕ) → n ≡ length (trimmed (take (margin_of wide row.size) row.cells))
    → list_all is_graphic (take n (glyphs_of row.cells)) ≡ true → take n (glyphs_of row.cells) ≡ row_printed wide row
unfolding row_printed
ascii_row wide row n is graphic =
    let cells = take (margin_of wide row.size) row.cells in
    let same : take n (glyphs_of row.cells) ≡ glyphs_of (trimmed cells) =
    glyphs_taken n row.cells
    ∙ ap glyphs_of (ap (λ k. take k row.cells) is ∙ front_of_front (length cells - suffix_len is_space cells) (margin_of wide row.size) row.cells) in
    same ∙ ascii_all (trimmed cells) (ap (list_all is_graphic) (sym same) ∙ graphic)

-- a cell that is left is printed
cell_some : (cell : Cell) → 0 < length (printed cell)
cell_some cell = rw (length-encode (character cell.glyph)) (grind (arith, nat_tests))

pub cells_some : (cells : List Cell) → 0 < length cells → 0 < length (flat_map printed cells)
cells_some [] some = absurd (omega arith)
cells_some (cell ∷ cells) some = omega (arith, length-append (printed cell) (flat_map printed cells), cell_some cell)

-- the same of a line of a screen
pub line_len : (p : Picture) (line : ℕ) (wide : Bool) (row : Row) (text : List ℕ) → wide ≡ p.wide → row ≡ row_at p.rows line → text ≡ printed_line wide row
    → length text ≡ length (row_printed p.wide (row_at p.rows line)) + 1
line_len p line wide row text wide_is row_is is =
    ap length is ∙ line_long wide row ∙ ap₂ (λ (w : Bool) (r : Row). length (row_printed w r) + 1) wide_is row_is

pub line_told : (p : Picture) (line : ℕ) (wide : Bool) (row : Row) (text : List ℕ) → wide ≡ p.wide → row ≡ row_at p.rows line → text ≡ printed_line wide row
    → take (length text - 1) text ≡ row_printed p.wide (row_at p.rows line)
line_told p line wide row text wide_is row_is is =
    ap (λ l. take (length l - 1) l) is ∙ line_cut wide row ∙ ap₂ row_printed wide_is row_is

pub ascii_told : (p : Picture) (line : ℕ) (wide : Bool) (row : Row) (cells kept : List Cell) (glyphs : List ℕ) → wide ≡ p.wide → row ≡ row_at p.rows line
    → cells ≡ take (margin_of wide row.size) row.cells → kept ≡ trimmed cells → glyphs ≡ glyphs_of row.cells
    → list_all is_graphic (take (length kept) glyphs) ≡ true → take (length kept) glyphs ≡ row_printed p.wide (row_at p.rows line)
ascii_told p line wide row cells kept glyphs wide_is row_is cells_are kept_are glyphs_are graphic =
    let n_is : length kept ≡ length (trimmed (take (margin_of wide row.size) row.cells)) = ap length kept_are ∙ ap (λ l. length (trimmed l)) cells_are in
    let same : take (length kept) (glyphs_of row.cells) ≡ take (length kept) glyphs = ap (take (length kept)) (sym glyphs_are) in
    sym same ∙ ascii_row wide row (length kept) n_is (ap (list_all is_graphic) same ∙ graphic) ∙ ap₂ row_printed wide_is row_is

-- and the text of those that are kept
pub kept_told : (p : Picture) (line : ℕ) (wide : Bool) (row : Row) (cells kept : List Cell) → wide ≡ p.wide → row ≡ row_at p.rows line
    → cells ≡ take (margin_of wide row.size) row.cells → kept ≡ trimmed cells → row_printed p.wide (row_at p.rows line) ≡ flat_map printed kept
unfolding row_printed
kept_told p line wide row cells kept wide_is row_is cells_are kept_are =
    sym (ap₂ row_printed wide_is row_is) ∙ ap (λ l. flat_map printed (trimmed l)) (sym cells_are) ∙ ap (flat_map printed) (sym kept_are)

-- the rows so far are a beginning of more of them
pub front_rows : {W : Type 0} {contents : W → Option (List ℕ)} {a b : Watched W} {x y : Back} (p : Picture) (line count : ℕ) → line ≤ count
    → Tells contents a x b y (take line (all_rows p)) → TellsFront contents a x b y (take count (all_rows p))
front_rows p line count le told = record {
  front = take line (all_rows p);
  rest = drop line (take count (all_rows p));
  cut = sym (take-append-drop line (take count (all_rows p))) ∙ ap (λ l. l ++ drop line (take count (all_rows p))) (take-take line count (all_rows p) le);
  tells = told;
}

-- ---- the rows that stand

pub standing_is : (profile : Profile) (before : List ℕ) (now : Transcriber) (p : Picture) → IsPlayed now (play_on (reset_as profile) before)
    → p ≡ now.terminal.picture → IsSafe now.terminal → take 24 (all_rows p) ≡ standing_rows profile before
unfolding standing_rows
standing_is profile before now p is same safe =
    let long : length (all_rows p) ≡ 24 =
    length-map p.rows (row_printed p.wide) ∙ ap (λ (q : Picture). length q.rows) same ∙ safe.sound.rows in
    take_all 24 (all_rows p) (omega (arith, long))
    ∙ ap all_rows (same ∙ sym (ap (λ (s : Console). s.picture) is.console))
