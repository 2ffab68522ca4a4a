-- Private: how a text begins, told by the glyphs of three cells side by side.
use Rattle.std.specs.Prelude.{◌≡◌, ◌≢◌, ℕ, ◌+◌, ◌*◌, ◌<◌, ◌-◌, ◌==◌, ◌&&◌, ◌||◌, Bool, false, List, length, slice_index_or}
use Rattle.std.specs.Int.Bits.{bit_and}
use Rattle.vt_screen.specs.Attributes.{byte_of}
use Rattle.vt_screen.specs.declared.cell.Cell.{Cell}
use Rattle.vt_screen.specs.Cells.{blank}
use Rattle.screen_print.specs.declared.start.Start.{Start}
use Rattle.screen_print.specs.declared.start.Wanted.{Wanted}
use Rattle.screen_rows.specs.Glyphs.{character}

-- whether a cell has what is wanted: the bits of its number under a mask
abbrev pub fits : Wanted → Cell → Bool
fits wanted cell = bit_and (256 * byte_of cell.rendition + cell.glyph) wanted.mask == wanted.bits

-- a cell that hasn't it doesn't show the character of a text at a place, which the text has
abbrev pub Wants : List ℕ → ℕ → Wanted → Type 0
Wants text place wanted =
    (cell : Cell) → fits wanted cell ≡ false
    → (place < length text) × (character cell.glyph ≢ slice_index_or text place 0)

-- the first three characters
pub record IsStart (text : List ℕ) (start : Start) : Type 0 where
  pub first : Wants text 0 start.first
  pub second : Wants text 1 start.second
  pub third : Wants text 2 start.third

-- whether three cells have it
abbrev pub three_fit : Start → Cell → Cell → Cell → Bool
three_fit start one two three = (fits start.first one && fits start.second two) && fits start.third three

-- whether three cells from a place on have it
abbrev pub starts_at : Start → List Cell → ℕ → Bool
starts_at start cells at =
    three_fit start (slice_index_or cells at blank) (slice_index_or cells (at + 1) blank)
    (slice_index_or cells (at + 2) blank)

-- whether the last cell has it, or the last two have it, as far as they go
abbrev pub starts_at_end : Start → List Cell → Bool
starts_at_end start cells =
    let last = slice_index_or cells (length cells - 1) blank in
    let before = slice_index_or cells (length cells - 2) blank in
    fits start.first last || (fits start.first before && fits start.second last)
