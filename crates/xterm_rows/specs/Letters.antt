-- Cells whose kind is known without a look at each part.
use Rattle.std.specs.Prelude.{◌≡◌, ◌≢◌, ◌<◌, ◌≤◌, ℕ, false, List, [], length}
use Rattle.sheet.specs.declared.rendition.Rendition.{Rendition}
use Rattle.sheet.specs.declared.cell.Kind.TheVariants.{Narrow}
use Rattle.sheet.specs.Cells.{Cell, is_covered}
use Rattle.sheet.specs.Mixed.{AreAlike}
use Rattle.xterm_rows.specs.Outlines.{is_outlined}
use Rattle.xterm_rows.specs.Runs.{cell_behind}

-- a character of ASCII alone in this rendition
pub record IsLetter (rendition : Rendition) (cell : Cell) : Type 0 where
  pub kind : cell.kind ≡ Narrow
  pub rendition_is : cell.rendition ≡ rendition
  pub alone : cell.marks ≡ []
  pub low : cell.character < 128

-- so are all from one place to before another
abbrev pub AreLetters : Rendition → List Cell → ℕ → ℕ → Type 0
AreLetters rendition cells from end = (k : ℕ) → from ≤ k → k < end → IsLetter rendition (cell_behind cells k)

-- characters without marks in one rendition, of one width, and both drawn or neither
pub record AreJoined (one other : Cell) : Type 0 where
  pub uncovered : is_covered one ≡ false
  pub kind : one.kind ≡ other.kind
  pub rendition : one.rendition ≡ other.rendition
  pub alone : length one.marks ≡ 0
  pub alone_too : length other.marks ≡ 0
  pub drawn : is_outlined one.character ≡ is_outlined other.character

-- letters whose renditions have other numbers
pub record AreParted (one other : Cell) : Type 0 where
  pub first : IsLetter one.rendition one
  pub next : IsLetter other.rendition other
  pub apart : AreAlike one.rendition other.rendition → ⊥

-- characters without marks of which one alone is drawn
pub record AreUnlike (one other : Cell) : Type 0 where
  pub uncovered : is_covered one ≡ false
  pub uncovered_too : is_covered other ≡ false
  pub alone : length one.marks ≡ 0
  pub alone_too : length other.marks ≡ 0
  pub drawn : is_outlined one.character ≢ is_outlined other.character
