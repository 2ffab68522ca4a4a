-- Cells by their numbers.
use Rattle.std.specs.Prelude.{◌≡◌, ℕ, ◌+◌, ◌*◌, ◌%◌}
use Rattle.sheet.specs.declared.rendition.Rendition.{Rendition}
use Rattle.sheet.specs.Cells.{Cell}
use Rattle.sheet.specs.Numbers.{attribute_number, colour_number, first_number, second_number, style_number, text_number}

-- its style and its text are mixed into another number; equal cells are mixed alike (ours)
unfoldable pub mixed : ℕ → Cell → ℕ
mixed sum cell =
    ((sum + style_number cell.kind cell.rendition) % 18446744073709551616 * 6364136223846793005 % 18446744073709551616
    + text_number cell.character (first_number cell.marks) (second_number cell.marks)) % 18446744073709551616

-- the attributes of two renditions and their colours have the same numbers
pub record AreAlike (one other : Rendition) : Type 0 where
  pub attributes : attribute_number one ≡ attribute_number other
  pub ink : colour_number one.ink ≡ colour_number other.ink
  pub paper : colour_number one.paper ≡ colour_number other.paper
