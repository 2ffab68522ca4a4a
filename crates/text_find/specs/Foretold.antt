-- What bytes surely do to the rows of a terminal, and that nothing of a text goes where they write.
use Rattle.std.specs.Prelude.{◌≡◌, ℕ, ◌+◌, ◌<◌, ◌≤◌, List, ◌++◌, if◌then◌else◌, length, take}
use Rattle.standings.specs.Kept.{Keeps}
use Rattle.standings.specs.Moved.{moved_up, region_down, region_up}
use Rattle.standings.specs.Rows.{Row, row_below}
use Rattle.standings.specs.Written.{rows_written}
use Rattle.text_find.specs.declared.foretold.Foretold.{Foretold}
use Rattle.text_find.specs.declared.foretold.Foretold.TheVariants.{MovesUp, MovesWithin, Types, Writes}
use Rattle.text_find.specs.FindLines.{rows_within}

-- how many of the bytes it is foretold of
abbrev pub taken_by : Foretold → ℕ
taken_by (MovesUp columns) = 1
taken_by (MovesWithin region) = region.taken
taken_by (Writes written) = written.taken
taken_by (Types written) = 1

-- the rows behind them, where these are the letters that are written
abbrev pub foretold_rows : Foretold → List ℕ → List Row → List Row
foretold_rows (MovesUp columns) letters rows = moved_up columns rows
foretold_rows (MovesWithin region) letters rows =
    if region.down then region_down region.from region.to region.columns rows else region_up region.from region.to region.columns rows
foretold_rows (Writes written) letters rows = rows_written written.above written.before letters rows
foretold_rows (Types written) letters rows = rows_written written.above written.before letters rows

-- these rows have the ones that move, or the characters that are written over
abbrev pub HasRoom : Foretold → List ℕ → List Row → Type 0
HasRoom (MovesUp columns) letters rows = 0 < length rows
HasRoom (MovesWithin region) letters rows = (region.from < region.to) × (region.to ≤ length rows)
HasRoom (Writes written) letters rows =
    (written.above < length rows) × (written.before + length letters ≤ length (row_below rows written.above).characters)
HasRoom (Types written) letters rows =
    (written.above < length rows) × (written.before + length letters ≤ length (row_below rows written.above).characters)

-- no row changes before the last of the bytes that move rows between margins, and nothing of a text goes at any of those that write
abbrev pub KeepsIn : List ℕ → (List ℕ → List Row) → List ℕ → List ℕ → Foretold → Type 0
KeepsIn text screen before bytes (MovesUp columns) = Unit {0}
KeepsIn text screen before bytes (MovesWithin region) =
    (count : ℕ) → count < region.taken → rows_within screen before bytes count ≡ rows_within screen before bytes 0
KeepsIn text screen before bytes (Writes written) =
    (count : ℕ) → count < written.taken → Keeps text (rows_within screen before bytes count) (rows_within screen before bytes (count + 1))
KeepsIn text screen before bytes (Types written) = Unit {0}

-- this is what the first of the bytes do, where others were played before
pub record IsForetold (text : List ℕ) (screen : List ℕ → List Row) (before bytes : List ℕ) (foretold : Foretold) (letters : List ℕ) : Type 0 where
  pub rows : screen (before ++ take (taken_by foretold) bytes) ≡ foretold_rows foretold letters (screen before)
  pub room : HasRoom foretold letters (screen before)
  pub keeps : KeepsIn text screen before bytes foretold

-- a row that comes in has no more columns than can be told
abbrev pub IsNarrow : Foretold → Type 0
IsNarrow (MovesUp columns) = columns < 65535
IsNarrow (MovesWithin region) = region.columns < 65535
IsNarrow (Writes written) = Unit {0}
IsNarrow (Types written) = Unit {0}

-- it is foretold of some bytes, and of no more than so many
pub record IsWithin (foretold : Foretold) (count : ℕ) : Type 0 where
  pub some : 0 < taken_by foretold
  pub within : taken_by foretold ≤ count
  pub narrow : IsNarrow foretold
