-- Cells: blank ones, characters with their marks, and right halves of wide ones.
use Rattle.std.specs.Prelude.{ℕ, Bool, true, false, nat_lt, List, [], ◌∷◌, ◌++◌, length, if◌then◌else◌}
use Rattle.sheet.specs.declared.rendition.Rendition.{Rendition}
use Rattle.sheet.specs.declared.rendition.Colour.{Colour}
use Rattle.sheet.specs.declared.rendition.Colour.TheVariants.{Default}
use Rattle.sheet.specs.declared.cell.Kind.{Kind}
use Rattle.sheet.specs.declared.cell.Kind.TheVariants.{Narrow, Wide, Covered}
use Rattle.sheet.specs.Table.{nth}

-- a character with its marks, characters of width 0, in the order in which they came (Unicode 3.6)
pub record Cell : Type 0 where
  pub kind : Kind
  pub character : ℕ
  pub marks : List ℕ
  pub rendition : Rendition

-- no attribute, the default ink and this paper (ECMA-48 8.3.117, SGR 0)
abbrev pub plain_on : Colour → Rendition
plain_on paper = record {
  bold = false;
  faint = false;
  italic = false;
  underscore = false;
  blink = false;
  reverse = false;
  concealed = false;
  crossed_out = false;
  ink = Default;
  paper = paper;
}

-- a character of width 1 or 2 without marks (Unicode annex 11)
unfoldable pub lettered : ℕ → Bool → Rendition → Cell
lettered character wide rendition = record {
  kind = (if wide then Wide else Narrow);
  character = character;
  marks = [];
  rendition = rendition;
}

-- a space with the default ink, no attribute and this paper (erased in colour: xterm)
unfoldable pub blank : Colour → Cell
blank paper = record { kind = Narrow; character = 32; marks = []; rendition = plain_on paper }

-- the right half of a character of this rendition (xterm)
unfoldable pub covering : Rendition → Cell
covering rendition = record { kind = Covered; character = 32; marks = []; rendition = rendition }

-- the letter E without rendition (xterm: DECALN)
abbrev pub alignment : Cell
alignment = lettered 69 false (plain_on Default)

-- a mark joins a cell that has fewer than two; it is dropped at another one (xterm)
unfoldable pub with_mark : ℕ → Cell → Cell
with_mark mark cell =
    record cell { marks = (if nat_lt (length cell.marks) 2 then cell.marks ++ mark ∷ [] else cell.marks) }

-- that of a character of width 2 (Unicode annex 11)
abbrev pub wide_kind : Kind → Bool
wide_kind Wide = true
wide_kind Narrow = false
wide_kind Covered = false

-- that of a right half (ours)
abbrev pub covered_kind : Kind → Bool
covered_kind Covered = true
covered_kind Narrow = false
covered_kind Wide = false

-- a character of width 2 (Unicode annex 11)
unfoldable pub is_wide : Cell → Bool
is_wide cell = wide_kind cell.kind

-- the right half of the character at its left (ours)
unfoldable pub is_covered : Cell → Bool
is_covered cell = covered_kind cell.kind

-- the cell of a row at a column; outside the row stands a blank one (ours)
abbrev pub cell_at : List Cell → ℕ → Cell
cell_at row column = nth (blank Default) row column
