-- The letters of a row: one <text>, with a <tspan> for each group of letters that a list of places serves (ours).
use Rattle.std.specs.Prelude.{ℕ, ◌+◌, ◌-◌, ◌*◌, Bool, not, List, ◌∷◌, ◌++◌, codes, decimal, drop, length, nat_lt, take, ◌==◌, ◌&&◌, ◌||◌}
use Rattle.std.specs.List.{flat_map, range_with_len}
use Rattle.sheet.specs.Cells.{Cell, is_covered, is_wide}
use Rattle.xterm_rows.specs.Groups.{group_end, starts}
use Rattle.xterm_rows.specs.Runs.{begins, cell_behind, is_marked, owner, run_at}
use Rattle.xterm_rows.specs.declared.runs.Run.{Run}
use Rattle.xterm_picture.specs.Attributes.{letter_attributes, text_where}
use Rattle.xterm_picture.specs.Texts.{letter_text}

-- a character with a <tspan> of its own: one of width 2, one with marks, one above U+FFFF, a soft hyphen, and what ends
-- a line or a paragraph
unfoldable pub is_alone : Cell → Bool
is_alone cell =
    is_wide cell || is_marked cell || nat_lt 0xFFFF cell.character || (cell.character == 0xAD)
    || (cell.character == 0x2028) || (cell.character == 0x2029)

-- a <tspan> begins where its run begins, at a character that stands alone and behind one
unfoldable pub begins_span : List Cell → ℕ → ℕ → Bool
begins_span cells from at =
    (at == from)
    || (not (is_covered (cell_behind cells at))
    && (is_alone (owner cells (at - 1)) || is_alone (cell_behind cells at)))

-- the cells from a place to before another
abbrev pub cells_between : List Cell → ℕ → ℕ → List Cell
cells_between cells from end = take (end - from) (drop from cells)

-- where a character stands that isn't the first: a space, and 10 units for each cell before it; right halves have none
unfoldable pub place_text : List Cell → ℕ → List ℕ
place_text cells at = text_where (not (is_covered (cell_behind cells at))) (32 ∷ decimal (10 * at))

-- where the characters from one place to before another stand
unfoldable pub places_text : List Cell → ℕ → ℕ → List ℕ
places_text cells from end =
    decimal (10 * from) ++ flat_map (place_text cells) (range_with_len (from + 1) (end - (from + 1)))

-- the <tspan> of the characters from one place to before another
unfoldable pub piece_text : Bool → List Cell → Run → ℕ → ℕ → List ℕ
piece_text reversed cells run from end =
    codes "<tspan" ++ letter_attributes reversed run.kind ++ codes " x=\"" ++ places_text cells from end
    ++ codes "\">" ++ flat_map letter_text (cells_between cells from end) ++ codes "</tspan>"

-- the <tspan> that begins at a place of a run
abbrev pub span_text : Bool → List Cell → Run → ℕ → List ℕ
span_text reversed cells run at =
    piece_text reversed cells run at (group_end (begins_span cells run.before) at run.end)

-- the letters of a run; concealed ones aren't drawn (ECMA-48 8.3.117, SGR 8)
unfoldable pub spans_text : Bool → List Cell → Run → List ℕ
spans_text reversed cells run =
    text_where (not run.kind.rendition.concealed)
    (flat_map (span_text reversed cells run) (starts (begins_span cells run.before) run.before run.end))

-- the letters of the run that begins at a place
abbrev pub run_letters : Bool → List Cell → ℕ → List ℕ
run_letters reversed cells at = spans_text reversed cells (run_at cells at)

-- the letters of all runs, one text
unfoldable pub run_texts : Bool → List Cell → List ℕ
run_texts reversed cells =
    codes "<text y=\"15\">"
    ++ flat_map (run_letters reversed cells) (starts (begins cells) 0 (length cells)) ++ codes "</text>"

-- the letters of cells; nothing where there is none
unfoldable pub letters_text : Bool → List Cell → List ℕ
letters_text reversed cells = text_where (not (length cells == 0)) (run_texts reversed cells)
