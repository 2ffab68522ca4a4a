-- Private: the parts of a page in the order in which they are written.
use Rattle.std.specs.Prelude.{◌≡◌, ◌≢◌, ℕ, ◌%◌, ◌<◌, ◌≤◌, Bool, true, false, not, All, IfSome, List, [], ◌∷◌, ◌++◌, ◌&&◌, ◌||◌, ◌==◌, ◌+◌, ◌-◌, Option, Some, None, filter, length, map, if◌then◌else◌, slice_index_or}
use Rattle.std.specs.List.{flat_map, range_with_len}
use Rattle.sheet.specs.Cells.{Cell}
use Rattle.sheet.specs.Grid.{is_touched, row_at}
use Rattle.screen_page.specs.EntryText.{comma_number}
use Rattle.screen_page.specs.Page.{front, tail}
use Rattle.xterm_term.specs.declared.measure.Size.{Size}
use Rattle.xterm_term.specs.Console.{Console}
use Rattle.xterm_page.specs.Entries.{change_by, change_of, console_by, entry_by, entry_of, first_entry, line_of}
use Rattle.xterm_page.specs.declared.kept.Block.{Block}
use Rattle.xterm_page.specs.declared.kept.Renewal.{Renewal}
use Rattle.xterm_page.specs.declared.kept.Renewal.TheVariants.{Line, Moved}
use Rattle.xterm_page.specs.declared.kept.Renewed.{Renewed}
use Rattle.xterm_page.specs.EntryText.{entry_front, named_text, next_text, size_text}
use Rattle.xterm_page.specs.Same.{row_number, same_row}

-- what stands before the chunks' entries ..
unfoldable pub first_text : List ℕ
first_text = next_text first_entry

unfoldable pub opening : List ℕ → ℕ → ℕ → List ℕ
opening title columns lines = front title ++ 91 ∷ size_text columns lines ++ first_text

-- .. the entry of each ..
abbrev pub chunk_text : Size → ℕ → ℕ → List ℕ → List ℕ → List ℕ
chunk_text size index due before after = next_text (entry_by size.columns size.lines due before after)

-- .. and what stands behind them
unfoldable pub closing : List ℕ
closing = 93 ∷ tail

-- a line that has changed
unfoldable pub changed_text : ℕ → List (List Cell) → List Cell → ℕ → List ℕ
changed_text lines before row line = named_text (change_of lines before row line)

-- a line is told as changed: it was touched, and differs
abbrev pub is_renewed : List ℕ → List Cell → List Cell → ℕ → Bool
is_renewed origins was row line = is_touched origins line && not (same_row was row)

-- what is told of a row that differs: the first line that was this row before ..
abbrev pub told_of : Option Renewed → Option (Option ℕ)
told_of (Some renewed) = Some renewed.was
told_of None = None

-- .. of lines from one to before another that came up by as many ..
abbrev pub come_told : ℕ → ℕ → ℕ → List (ℕ × Option ℕ)
come_told from end shift = map (λ line. (line, Some (line + shift))) (range_with_len from (end - from))

-- .. and of a line, or of such lines
abbrev pub told : Renewal → List (ℕ × Option ℕ)
told (Line line renewed) = (line, renewed.was) ∷ []
told (Moved block) = come_told block.from block.end block.shift

-- which lines these are
abbrev pub told_lines : Renewal → List ℕ
told_lines (Line line renewed) = line ∷ []
told_lines (Moved block) = range_with_len block.from (block.end - block.from)

-- no line, of which nothing is known
abbrev pub no_line : Renewal
no_line = Line 0 (record { number = None; was = None })

-- a number is among others
abbrev pub holds : ℕ → List ℕ → Bool
holds k [] = false
holds k (x ∷ xs) = (x == k) || holds k xs

-- the lines that are told as changed, up to one
abbrev pub renewed_lines : ℕ → List ℕ → List (List Cell) → List (List Cell) → List ℕ
renewed_lines to origins before after =
    filter (λ line. is_renewed origins (row_at before line) (row_at after line) line) (range_with_len 1 to)

-- what is told of each of them, up to one of so many and of all
abbrev pub renewed_to : ℕ → List ℕ → ℕ → List (List Cell) → List (List Cell) → List (ℕ × Option ℕ)
renewed_to to origins lines before after =
    map (λ line. (line, line_of lines before (row_at after line))) (renewed_lines to origins before after)

abbrev pub renewed : List ℕ → ℕ → List (List Cell) → List (List Cell) → List (ℕ × Option ℕ)
renewed origins lines before after = renewed_to lines origins lines before after

-- lines from one to before another differ, and the first line that was the row of each is so many lines further down
abbrev pub CameUp : List ℕ → ℕ → List (List Cell) → List (List Cell) → ℕ → ℕ → ℕ → Type 0
CameUp origins lines before after from end shift = (line : ℕ) → from ≤ line → line < end
    → (is_renewed origins (row_at before line) (row_at after line) line ≡ true)
    × (line_of lines before (row_at after line) ≡ Some (line + shift))

-- lines that came up are on a sheet of so many, with those from which they came
pub record InSheet (lines : ℕ) (block : Block) : Type 0 where
  pub low : 1 ≤ block.from
  pub some : block.from < block.end
  pub up : 1 ≤ block.shift
  pub high : block.end + block.shift ≤ lines + 1

-- these are lines of so many
abbrev pub IsWithin : ℕ → Renewal → Type 0
IsWithin lines (Line line renewed) = (1 ≤ line) × (line ≤ lines)
IsWithin lines (Moved block) = InSheet lines block

abbrev pub AreLines : ℕ → List Renewal → Type 0
AreLines lines changed = All (IsWithin lines) changed

-- where the number of a line's row is known, it is that
abbrev pub IsNumbered : List (List Cell) → Renewal → Type 0
IsNumbered rows (Line line renewed) = IfSome renewed.number (λ number. number ≡ row_number (row_at rows line))
IsNumbered rows (Moved block) = Unit {0}

abbrev pub AreNumbered : List (List Cell) → List Renewal → Type 0
AreNumbered rows changed = All (IsNumbered rows) changed

-- the number of each of the first rows has a mark
abbrev pub AreMarked : List (List Cell) → ℕ → List Bool → Type 0
AreMarked rows count marks =
    (line : ℕ) → 1 ≤ line → line ≤ count → slice_index_or marks (row_number (row_at rows line) % 2048) false ≡ true

-- what is written of a line by what is told of it
abbrev pub renewed_text : List (List Cell) → ℕ × Option ℕ → List ℕ
renewed_text after (line, was) = named_text (line, change_by was (row_at after line))

-- what is written of lines from one to before another that came up by so many
abbrev pub come_text : ℕ → ℕ → ℕ → List ℕ
come_text from end shift = flat_map (λ line. comma_number line ++ comma_number (line + shift)) (range_with_len from (end - from))

-- what is written of a line
unfoldable pub line_text : List ℕ → ℕ → List (List Cell) → List Cell → ℕ → List ℕ
line_text origins lines before row line =
    if is_renewed origins (row_at before line) row line then changed_text lines before row line else []

-- the lines that have changed, of so many
unfoldable pub lines_text : List ℕ → ℕ → List (List Cell) → List (List Cell) → List ℕ
lines_text origins lines before after =
    flat_map (λ line. line_text origins lines before (row_at after line) line) (range_with_len 1 lines)

-- when a chunk is due, the flags and the cursor
unfoldable pub front_text : ℕ → Console → List ℕ
front_text due after = entry_front (entry_of due [] after)

-- as many rows have so many columns
abbrev pub AreWide : ℕ → ℕ → List (List Cell) → Type 0
AreWide height width rows = (line : ℕ) → 1 ≤ line → line ≤ height → length (row_at rows line) ≡ width

-- these are so many rows of so many columns, the others
pub record KeptAll (height width : ℕ) (kept others : List (List Cell)) : Type 0 where
  pub lines : length kept ≡ height
  pub rows : kept ≡ others
  pub columns : AreWide height width kept

-- no two of so many first rows are the same
pub record AreDistinct (rows : List (List Cell)) (count : ℕ) : Type 0 where
  pub within : count ≤ length rows
  pub apart : (one other : ℕ) → 1 ≤ one → one < other → other ≤ count → row_at rows one ≢ row_at rows other

-- rows are those of the sheet that is shown once these bytes were played, and so many first ones are distinct
pub record AreKept (size : Size) (rows : List (List Cell)) (distinct : ℕ) (bytes : List ℕ) : Type 0 where
  pub all : KeptAll size.lines size.columns rows (console_by size.columns size.lines bytes).picture.rows
  pub apart : AreDistinct rows distinct
