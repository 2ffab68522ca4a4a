-- A strip of cells as a plain value, and what bytes make of it (ours).
use Rattle.std.specs.Prelude.{ℕ, ◌+◌, Bool, true, false, List, [], ◌∷◌, ◌++◌, length, fold, replicate, nat_eq, nat_lt, slice_set, if◌then◌else◌}
use Rattle.seek_tests.specs.declared.strip.Meaning.{Meaning}
use Rattle.seek_tests.specs.declared.strip.Meaning.TheVariants.{Asks, Quotes, Stands}

-- its cells, which of them is the next, and whether the next byte is quoted
pub record Seen : Type 0 where
  pub cells : List ℕ
  pub next : ℕ
  pub quoting : Bool

-- so many blank cells: a full stop (46) stands in each
abbrev pub blank : ℕ → Seen
blank size = record { cells = replicate size 46; next = 0; quoting = false }

-- A full strip begins anew.
abbrev pub begun : Seen → Seen
begun s = if nat_lt s.next (length s.cells) then s else blank (length s.cells)

-- The byte stands in the next cell.
abbrev pub standing : ℕ → Seen → Seen
standing byte s = record { cells = slice_set s.cells s.next byte; next = s.next + 1; quoting = false }

-- what a byte is to a strip: `?` (63) asks, `\` (92) quotes, and each other stands, as each that is quoted
abbrev pub meaning : Bool → ℕ → Meaning
meaning true byte = Stands
meaning false byte = if nat_eq byte 63 then Asks else if nat_eq byte 92 then Quotes else Stands

-- what a byte of this meaning makes of a strip
abbrev pub step_of : Meaning → Seen → ℕ → Seen
step_of Asks s byte = s
step_of Quotes s byte = record s { quoting = true }
step_of Stands s byte = standing byte (begun s)

-- what the strip answers to it
abbrev pub answer_of : Meaning → Seen → List ℕ
answer_of Asks s = s.cells
answer_of Quotes s = []
answer_of Stands s = []

-- what a byte makes of a strip
abbrev pub step : Seen → ℕ → Seen
step s byte = step_of (meaning s.quoting byte) s byte

-- what a strip answers to a byte
abbrev pub answer : Seen → ℕ → List ℕ
answer s byte = answer_of (meaning s.quoting byte) s

-- what bytes make of a strip, one after the other
unfoldable pub play : Seen → List ℕ → Seen
play s bytes = fold step s bytes

-- what a strip answers to bytes
unfoldable pub answers : Seen → List ℕ → List ℕ
answers s [] = []
answers s (byte ∷ more) = answer s byte ++ answers (step s byte) more
